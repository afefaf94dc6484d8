use Rattle.std.proofs.Common.{◌≡◌}
use Rattle.cubes.specs.Masks.{mask_of}
use Rattle.boards.specs.Values.{is_zero, is_one}
use Rattle.boards.specs.Cards.{output}
use Rattle.boards.specs.Boards.{card_of}
use Rattle.boards.proofs.board.Board.seen_at.Given as goal

abbrev pub invariant-loop-o : goal.invariant-loop-o
invariant-loop-o l = (l.zeros ≡ mask_of (λ o. is_zero (output (card_of l.self) l.values o)) l.o) × (l.ones ≡ mask_of (λ o. is_one (output (card_of l.self) l.values o)) l.o)
