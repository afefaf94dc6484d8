use Rattle.std.proofs.Common.{◌≡◌, ℕ, ◌+◌, ◌<◌, ◌≤◌, false, cond, get_or}
use Rattle.sheets.proofs.sweeping.add_marks.Given as goal

abbrev pub invariant-loop-duty : goal.invariant-loop-duty
invariant-loop-duty l = ((k : ℕ) → k < l.duty → get_or l.counts k 0 ≡ get_or l.initial.counts k 0 + cond (get_or l.marks k false) 1 0) × ((k : ℕ) → l.duty ≤ k → get_or l.counts k 0 ≡ get_or l.initial.counts k 0)
