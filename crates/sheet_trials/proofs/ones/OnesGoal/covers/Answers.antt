use Rattle.std.proofs.Common.{◌&&◌, eqb, sym, ap, ◌∙◌, arith}
use Rattle.std.proofs.lemmas.Bool.{lt-ltb}
use Rattle.cubes.specs.Masks.{bit}
use Rattle.cubes.proofs.Bits.{low_bit}
use Rattle.sheet_trials.proofs.ones.OnesGoal.covers.Goals as goal

pub returns : goal.returns
returns c =
    let d = c.args.duty in
    ap (λ n. eqb n 1) (low_bit c.ones.result d ∙ ap (λ m. bit m d) c.ones.ensures)
    ∙ ap (λ t. t && eqb (bit c.args.cube.ones d) 1) (sym (lt-ltb d 2 (omega arith)))
