use Rattle.std.proofs.Common.{◌≡◌}
use Rattle.boards.specs.Records.{counts}
use Rattle.boards.specs.Scanning.{so_far, Good}
use Rattle.boards.proofs.reading.check_all.Given as goal

abbrev pub invariant-loop-r : goal.invariant-loop-r
invariant-loop-r l = (l.seen ≡ counts (so_far l.bytes l.r)) × Good l.bytes l.r
