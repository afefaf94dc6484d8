use Rattle.std.proofs.Common.{◌+◌, ◌<◌, length, refl, arith}
use Rattle.goals.proofs.Walks.{Walk, along, down, over}
use Rattle.goals.proofs.distinction.Pairs.mark.Goals as goal
use Rattle.goals.proofs.distinction.Pairs.mark.Goals.{then-i-top+then-j-top, then-i-top+else-j-top, else-i-top}

pub loop-mark-preserved : goal.loop-mark-preserved
loop-mark-preserved c =
    let n = c.args.self.now.n in
    let xs = c.args.answers.now in
    let walk = c.loop-mark.invariant.1 in
    let lt : c.loop-mark.mark-index < length c.loop-mark.marks = omega arith in
    let next : Walk n xs (c.loop-mark.mark-index + 1) c.if-i-top.i c.if-i-top.j c.if-i-top.marks =
    elim c.if-i-top.branch [
      | then-i-top+then-j-top w ↦ (let q = along n xs c.loop-mark.mark-index c.loop-mark.i c.loop-mark.j c.loop-mark.marks walk lt w.told_apart.result w.told_apart.ensures w.if-i-top.true w.if-j-top.true in rw (w.marks-is, w.i-is, w.j-is) q)
      | then-i-top+else-j-top w ↦ (let q = down n xs c.loop-mark.mark-index c.loop-mark.i c.loop-mark.j c.loop-mark.marks walk lt w.told_apart.result w.told_apart.ensures w.if-i-top.true w.if-j-top.false in rw (w.marks-is, w.i-is, w.j-is) q)
      | else-i-top w ↦ (let q = over n xs c.loop-mark.mark-index c.loop-mark.i c.loop-mark.j c.loop-mark.marks walk lt w.if-i-top.false in rw (w.marks-is, w.i-is, w.j-is) q)
    ] in
    (refl, next)
