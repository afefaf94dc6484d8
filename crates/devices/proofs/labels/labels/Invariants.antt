use Rattle.std.proofs.Common.{◌≡◌, ℕ, ◌<◌, ◌≤◌, get_or}
use Rattle.devices.specs.Deciding.{Label}
use Rattle.devices.proofs.labels.labels.Given as goal

abbrev pub invariant-loop-k : goal.invariant-loop-k
invariant-loop-k g l =
    ((k : ℕ) → k < l.k → Label (g.D.Device.means l.device) k (get_or l.list k 0))
    × ((k : ℕ) → l.k ≤ k → get_or l.list k 0 ≡ get_or l.initial.list k 0)
