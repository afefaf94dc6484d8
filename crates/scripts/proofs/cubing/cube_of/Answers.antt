use Rattle.std.proofs.Common.{◌≡◌, length, ◌∙◌, arith}
use Rattle.scripts.proofs.Masking.{lettered_cube}
use Rattle.scripts.proofs.cubing.cube_of.Goals as goal

pub returns : goal.returns
returns c =
    let some : length c.args.word.now ≡ 0 → ⊥ = grind arith in
    c.cube_with-2.ensures
    ∙ lettered_cube c.args.word.now _ _ some (omega arith) c.if-is_dash.ensures c.if-not-has_letters_only.ensures c.inputs_of.ensures c.inputs_of-2.ensures
