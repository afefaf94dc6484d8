use Rattle.std.proofs.Common.{◌≡◌, ℕ, ◌+◌, ◌<◌, ◌≤◌, length, get_or, drop}
use Rattle.sheets.specs.Sweeping.{times}
use Rattle.sheets.proofs.memory.Memory.tally.Given as goal

abbrev pub invariant-loop-row : goal.invariant-loop-row
invariant-loop-row g l = (d : ℕ) → d < length l.counts → (get_or l.counts d 0 + times (g.G.Goal.means l.goal) (drop l.row-index l.rows) d ≡ times (g.G.Goal.means l.goal) l.rows d) × (get_or l.counts d 0 ≤ l.row-index)
