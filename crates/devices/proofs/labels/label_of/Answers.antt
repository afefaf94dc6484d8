use Rattle.std.proofs.Common.{arith, below_more}
use Rattle.devices.proofs.Apart.{same_itself, passed_over}
use Rattle.std.proofs.lemmas.Bool.{both_ways}
use Rattle.devices.proofs.labels.label_of.Goals as goal
use Rattle.devices.proofs.labels.label_of.Goals.{else-list-from-via-then-list-from+else-equivalent, else-list-from-via-else-list-from}

pub loop-j-preserved : goal.loop-j-preserved
loop-j-preserved g c =
    let m = g.D.Device.means c.args.device.now in
    let law = g.met.D.Device.lawful c.args.device.now in
    let j = c.loop-j.j in
    below_more _ _ c.loop-j.invariant
    (elim c.else-list-from.branch [
      | else-list-from-via-then-list-from+else-equivalent w ↦ (λ same. both_ways _ w.if-equivalent.false (w.equivalent.ensures.1 same))
      | else-list-from-via-else-list-from w ↦ passed_over m law j c.args.k _ (omega (arith, c.requires.exists)) (c.requires.earlier j c.loop-j-test.true) (rw c.from.ensures at w.if-list-from.false) c.loop-j.invariant
    ])

pub returns : goal.returns
returns g c = (
  c.requires.exists,
  same_itself _ (g.met.D.Device.lawful c.args.device.now) c.args.k,
  (λ j h. c.loop-j.invariant j (omega arith)),
)
