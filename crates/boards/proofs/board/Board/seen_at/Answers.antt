use Rattle.std.proofs.Common.{◌≡◌, ◌<◌, get_or, arith}
use Rattle.std.proofs.lemmas.List.{get_or_read}
use Rattle.boards.specs.Boards.{card_of}
use Rattle.boards.proofs.Masks.{zeros_more, ones_more}
use Rattle.boards.proofs.board.Board.seen_at.Goals as goal

pub loop-o-preserved : goal.loop-o-preserved
loop-o-preserved c =
    let b = c.args.self.now in
    let vs = c.args.values.now in
    let o = c.loop-o.o in
    let few : o < 32 = omega (arith, b.few_outputs) in
    let line : _ ≡ get_or (card_of b).outputs o 0 = grind (arith, get_or_read) in (
      zeros_more (card_of b) vs _ o _ _ _ few c.from.ensures c.loop-o.invariant.0 c.eq.ensures line,
      ones_more (card_of b) vs _ o _ _ _ few c.from-in-loop-o.ensures c.loop-o.invariant.1 c.eq-in-loop-o.ensures line,
    )
