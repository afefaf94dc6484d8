use Rattle.std.proofs.Common.{◌≡◌, refl, ap, ◌∙◌, add-one, arith}
use Rattle.std.proofs.lemmas.List.{length-set}
use Rattle.boards.specs.declared.parts.Value.TheVariants.{Unknown}
use Rattle.boards.specs.Cards.{held, lines, read, values}
use Rattle.boards.specs.Boards.{card_of}
use Rattle.boards.specs.Equal.{Equal, equal_kept}
use Rattle.boards.specs.Related.{itself_related}
use Rattle.boards.specs.Lines.{nowhere, length_values, place_more, simulated}
use Rattle.boards.specs.Soundness.{sound}
use Rattle.boards.proofs.board.Board.simulate.Goals as goal

pub loop-k-init : goal.loop-k-init
loop-k-init c = (refl, nowhere Unknown 512)

pub loop-k-preserved : goal.loop-k-preserved
loop-k-preserved c =
    let b = c.args.self.now in
    let f = c.fault_of-fault.result in
    let x = c.args.cube in
    let vs = c.loop-k.values in
    let k = c.loop-k.k in
    let ws = values (card_of b) f x k in
    let here : c.held_value.result ≡ held f k _ =
    c.held_value.ensures ∙ ap (held f k) (c.own_value-free.ensures ∙ itself_related Equal equal_kept (card_of b) (sound b) x x (read vs) (read ws) k (omega arith) (λ _. refl) (λ j _. c.loop-k.invariant.1 j)) in (
      length-set vs k c.held_value.result ∙ c.loop-k.invariant.0,
      rw (here, add-one k) (place_more Unknown vs ws k _ (omega (arith, c.loop-k.invariant.0, (sound b).few_lines)) (length_values (card_of b) f x k) c.loop-k.invariant.1),
    )

pub returns : goal.returns
returns c =
    let b = c.args.self.now in
    let e : c.loop-k.k ≡ lines (card_of b) = omega arith in
    simulated (card_of b) (sound b) c.args.machine c.args.cube c.loop-k.values
    (rw (← e, ← c.fault_of-fault.ensures) c.loop-k.invariant.1)
