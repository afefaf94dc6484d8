use Rattle.std.proofs.Common.{◌≡◌, ℕ, ◌<◌, get_or}
use Rattle.devices.specs.declared.answer.Answer.{Answer}
use Rattle.goals.proofs.distinction.ask_all.Given as goal

abbrev pub invariant-loop-machine : goal.invariant-loop-machine
invariant-loop-machine g l = (k : ℕ) (d : Answer) → k < l.machine → get_or l.answer-items k d ≡ (g.D.Device.means l.device).answer k l.cube
