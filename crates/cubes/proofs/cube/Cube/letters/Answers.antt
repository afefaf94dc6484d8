use Rattle.std.proofs.Common.{◌<◌, [], ◌∷◌, ◌++◌, string_bytes, sym, ap, ◌∙◌, arith}
use Rattle.std.proofs.lemmas.List.FromFn.{map-range_with_len_more}
use Rattle.cubes.specs.Cubes.{letter, letters}
use Rattle.cubes.proofs.Alike.{letter_ascii}
use Rattle.cubes.proofs.cube.Cube.letters.Goals as goal

pub loop-input-preserved : goal.loop-input-preserved
loop-input-preserved c =
    let x = c.args.self.now in
    let i = c.loop-input.input in
    let small : c.letter.result < 128 = omega (arith, letter_ascii x i, c.letter.ensures) in
    let one = c.in_ok-push.ensures.ascii small in
    let e = c.in_ok-push.ensures.bytes in
    e ∙ ap (λ bs. string_bytes c.loop-input.text ++ bs) one
    ∙ ap (λ bs. bs ++ (c.letter.result ∷ [])) c.loop-input.invariant
    ∙ ap (λ b. letters i x ++ (b ∷ [])) c.letter.ensures
    ∙ sym (map-range_with_len_more (letter x) 0 i i (omega arith))
