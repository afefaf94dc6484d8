use Rattle.std.proofs.Common.{ℕ, ◌^◌, ◌<◌, get_or}
use Rattle.devices.specs.Widely.{answer_at, Column}
use Rattle.devices.proofs.device.Device.answers.Given as goal

abbrev pub invariant-loop-k : goal.invariant-loop-k
invariant-loop-k g l =
    ((o : ℕ) → o < 32 → get_or l.zeros o 0 < 2 ^ l.k) × ((o : ℕ) → o < 32 → get_or l.ones o 0 < 2 ^ l.k)
    × ((q : ℕ) → q < l.k → Column l.zeros q (answer_at (g.Self.Device.means l.self) l.machine l.words q).zeros)
    × ((q : ℕ) → q < l.k → Column l.ones q (answer_at (g.Self.Device.means l.self) l.machine l.words q).ones)
