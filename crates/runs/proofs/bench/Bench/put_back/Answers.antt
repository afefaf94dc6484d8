-- The row of the slip is put back, and where there is no slip no row is out.
use Rattle.std.proofs.Common.{◌≡◌, vec_items, sym, subst, arith, rules}
use Rattle.sheets.specs.Sheets.{state, refused}
use Rattle.sheets.specs.Pulling.{put_back}
use Rattle.sheets.specs.declared.refusal.Refusal.TheVariants.{NotOut}
use Rattle.runs.specs.Hands.{Ready}
use Rattle.runs.proofs.Slips.{not_held, taken_itself}
use Rattle.runs.proofs.Readiness.{ready_put_back, none_in_hand}
use Rattle.runs.proofs.bench.Bench.put_back.Goals as goal

pub returns-in_err-slip : goal.returns-in_err-slip
returns-in_err-slip g c =
    let s = state c.args.self.now.sheet in
    let n = c.args.serial in
    let ps = vec_items c.args.self.now.slips in
    let e : put_back s n ≡ refused s NotOut = none_in_hand s ps c.args.self.now.ready n _ (not_held ps _ n c.take_slip.result (grind arith) c.take_slip.ensures.taken) in
    search rules

pub invariant_of-self-2-clause-ready : goal.invariant_of-self-2-clause-ready
invariant_of-self-2-clause-ready g c =
    let s = state c.args.self.now.sheet in
    let ps = vec_items c.args.self.now.slips in
    let qs = vec_items c.take_slip.new.slips in
    let p = c.in_ok-slip.slip in
    subst (λ r. Ready r qs) (sym c.put_back.ensures.after) (ready_put_back s ps c.args.self.now.ready qs p p.serial (taken_itself ps qs c.args.serial c.take_slip.result p (grind arith) c.take_slip.ensures.taken))
