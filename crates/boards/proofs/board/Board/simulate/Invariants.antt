use Rattle.std.proofs.Common.{◌≡◌, ℕ, length}
use Rattle.boards.specs.Cards.{read, values}
use Rattle.boards.specs.Boards.{card_of}
use Rattle.boards.proofs.board.Board.simulate.Given as goal

abbrev pub invariant-loop-k : goal.invariant-loop-k
invariant-loop-k l = (length l.values ≡ 512) × ((j : ℕ) → read l.values j ≡ read (values (card_of l.self) l.fault l.cube l.k) j)
