use Rattle.std.proofs.Common.{ℕ, ◌<◌}
use Rattle.devices.specs.Deciding.{EquivalentMachines}
use Rattle.devices.proofs.labels.label_of.Given as goal

abbrev pub invariant-loop-j : goal.invariant-loop-j
invariant-loop-j g l = (i : ℕ) → i < l.j → EquivalentMachines (g.D.Device.means l.device) i l.k → ⊥
