use Rattle.std.proofs.Common.{◌≡◌, ℕ, ◌<◌, false, vec_items}
use Rattle.sheets.proofs.Tallies.{sole}
use Rattle.sheets.proofs.memory.Memory.is_sole.Given as goal

abbrev pub invariant-loop-duty : goal.invariant-loop-duty
invariant-loop-duty g l = (k : ℕ) → k < l.duty → sole (g.G.Goal.means l.goal) (vec_items l.self.counts) l.marks k ≡ false
