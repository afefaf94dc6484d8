use Rattle.std.proofs.Common.{◌≡◌, ℕ, ◌<◌, false, get_or}
use Rattle.goals.specs.Detecting.{detection}
use Rattle.goals.proofs.detection.DetectionGoal.mark.Given as goal

abbrev pub invariant-loop-duty : goal.invariant-loop-duty
invariant-loop-duty g l = (k : ℕ) → k < l.duty → get_or l.marks k false ≡ (detection (g.D.Device.means l.self.device)).covers l.cube k
