use Rattle.std.proofs.Common.{◌≡◌, vec_items}
use Rattle.sheets.specs.Sweeping.{Tallied}
use Rattle.sheets.proofs.TallySweep.{sweeps}
use Rattle.sheets.proofs.sheet.Sheet.sweep.Given as goal

abbrev pub invariant-loop-i : goal.invariant-loop-i
invariant-loop-i g l = (vec_items l.self.rows ≡ sweeps (g.G.Goal.means l.initial.self.goal) (vec_items l.initial.self.rows) l.i) × (l.self.given ≡ l.initial.self.given) × (l.self.goal ≡ l.initial.self.goal) × Tallied (g.G.Goal.means l.self.goal) (vec_items l.self.rows) (vec_items l.self.memory.counts)
