use Rattle.std.proofs.Common.{◌≡◌, ℕ, ◌<◌, false, get_or}
use Rattle.goals.proofs.goal.Goal.mark.Given as goal

abbrev pub invariant-loop-duty : goal.invariant-loop-duty
invariant-loop-duty g l = (k : ℕ) → k < l.duty → get_or l.marks k false ≡ (g.Self.Goal.means l.self).covers l.cube k
