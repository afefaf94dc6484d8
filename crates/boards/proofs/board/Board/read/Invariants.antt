use Rattle.std.proofs.Common.{◌≡◌}
use Rattle.boards.specs.Boards.{card_of}
use Rattle.boards.specs.Scanning.{so_far}
use Rattle.boards.proofs.board.Board.read.Given as goal

abbrev pub invariant-loop-record : goal.invariant-loop-record
invariant-loop-record l = card_of l.self ≡ so_far l.bytes l.record-index
