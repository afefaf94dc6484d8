use Rattle.std.proofs.Common.{◌≡◌, ℕ, ◌<◌, ◌≤◌, false, not, ◌&&◌, get_or}
use Rattle.sheets.proofs.losing.take_off.Given as goal

abbrev pub invariant-loop-duty : goal.invariant-loop-duty
invariant-loop-duty l = ((k : ℕ) → k < l.duty → get_or l.left k false ≡ (get_or l.initial.left k false && not (get_or l.marks k false))) × ((k : ℕ) → l.duty ≤ k → get_or l.left k false ≡ get_or l.initial.left k false)
