use Rattle.std.proofs.Common.{◌≡◌, ℕ, ◌<◌, ◌≤◌, false, ◌&&◌, get_or}
use Rattle.sheets.proofs.losing.keep_wanted.Given as goal

abbrev pub invariant-loop-duty : goal.invariant-loop-duty
invariant-loop-duty g l = ((k : ℕ) → k < l.duty → get_or l.left k false ≡ ((g.G.Goal.means l.goal).wanted k && get_or l.initial.left k false)) × ((k : ℕ) → l.duty ≤ k → get_or l.left k false ≡ get_or l.initial.left k false)
