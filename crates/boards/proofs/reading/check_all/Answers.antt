use Rattle.std.proofs.Common.{◌≡◌, ◌%◌, length, arith}
use Rattle.boards.proofs.Accepted.{good_more, bad_here, cut_is}
use Rattle.boards.proofs.reading.check_all.Goals as goal

pub returns-in-Err : goal.returns-in-Err
returns-in-Err c =
    let bs = c.args.bytes.now in
    let r = c.loop-r.r in
    let whole : length bs % 16 ≡ 0 = grind arith in
    bad_here bs r c.loop-r.seen _ (cut_is bs _ r c.as_chunks.ensures.front (omega arith)) c.loop-r.invariant.0 c.loop-r.invariant.1 (λ i. (c.type_inv.bytes i).fits) whole (omega arith) c.in-Err.t c.in-Err.ensures

pub loop-r-preserved : goal.loop-r-preserved
loop-r-preserved c =
    let bs = c.args.bytes.now in
    let r = c.loop-r.r in
    good_more bs r c.loop-r.seen _ (cut_is bs _ r c.as_chunks.ensures.front (omega arith)) c.loop-r.invariant.0 c.loop-r.invariant.1 c.admit.new.self c.in_default.ensures
