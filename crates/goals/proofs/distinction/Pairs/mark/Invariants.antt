use Rattle.std.proofs.Common.{◌≡◌, ◌+◌}
use Rattle.goals.proofs.Walks.{Walk}
use Rattle.goals.proofs.distinction.Pairs.mark.Given as goal

abbrev pub invariant-loop-mark : goal.invariant-loop-mark
invariant-loop-mark l = (l.top ≡ l.self.n + 1) × Walk l.self.n l.answers l.mark-index l.i l.j l.marks
