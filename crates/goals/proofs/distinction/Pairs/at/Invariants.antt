use Rattle.std.proofs.Common.{◌≡◌, ◌+◌, ◌-◌}
use Rattle.std.specs.List.{slice_get}
use Rattle.goals.specs.Distinguishing.{pairs}
use Rattle.goals.proofs.distinction.Pairs.at.Given as goal

-- what is left of the number counts among the pairs that are left
abbrev pub invariant-loop-passed : goal.invariant-loop-passed
invariant-loop-passed l = slice_get (pairs (l.passed + 1) (l.self.n - l.passed)) l.beyond ≡ slice_get (pairs 1 l.self.n) l.duty
