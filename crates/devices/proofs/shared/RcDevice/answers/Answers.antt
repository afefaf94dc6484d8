use Rattle.std.proofs.Common.{subst}
use Rattle.devices.specs.Widely.{Answers}
use Rattle.devices.proofs.shared.RcDevice.answers.Goals as goal

pub returns : goal.returns
returns g c = subst (λ d. Answers (g.D.Device.means d) c.args.machine c.args.words.now c.answers.result) c.deref.ensures c.answers.ensures
