use Rattle.std.proofs.Common.{◌∙◌, arith}
use Rattle.std.proofs.lemmas.List.{get_or-set_other}
use Rattle.devices.specs.Deciding.{Label}
use Rattle.cubes.proofs.Filling.{filled}
use Rattle.devices.proofs.labels.labels.Goals as goal

pub loop-k-preserved : goal.loop-k-preserved
loop-k-preserved g c = (
  filled (Label (g.D.Device.means c.args.device.now)) c.loop-k.list 0 c.loop-k.k c.label_of.result (omega arith) c.loop-k.invariant.0 c.label_of.ensures,
  λ k h. get_or-set_other c.loop-k.list c.loop-k.k k c.label_of.result 0 (λ e. omega arith) ∙ c.loop-k.invariant.1 k (omega arith),
)

pub returns : goal.returns
returns g c = (
  omega arith,
  c.loop-k.auto.list,
  (λ k h. c.loop-k.invariant.0 k (omega arith)),
  (λ k h. c.loop-k.invariant.1 k (omega arith)),
)
