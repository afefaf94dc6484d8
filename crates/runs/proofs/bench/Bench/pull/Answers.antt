-- A pulled row is out and its slip is pushed; there is room, since there are no more slips than rows that are out.
use Rattle.std.proofs.Common.{[], ◌∷◌, ◌++◌, vec_items, sym, subst, arith}
use Rattle.std.proofs.lemmas.List.{length_push}
use Rattle.sheets.specs.Sheets.{state}
use Rattle.runs.specs.Hands.{Ready}
use Rattle.runs.proofs.Outs.{outs_few}
use Rattle.runs.proofs.Readiness.{ready_pull}
use Rattle.runs.proofs.bench.Bench.pull.Given as given
use Rattle.runs.proofs.bench.Bench.pull.Goals as goal
use Rattle.runs.proofs.bench.Bench.pull.Goals.{In_ok-slip}

ready : (g : given.Over) (c : In_ok-slip g) → Ready (state c.pull.new.self) (vec_items c.args.self.now.slips ++ (c.in_ok-slip.slip ∷ []))
ready g c =
    let ps = vec_items c.args.self.now.slips in
    let p = c.in_ok-slip.slip in
    subst (λ s. Ready s (ps ++ (p ∷ []))) (sym c.in_ok-slip.ensures.after) (ready_pull (state c.args.self.now.sheet) ps c.args.self.now.ready p c.args.serial c.in_ok-slip.ensures.answer)

pub push_reserved-requires : goal.push_reserved-requires
push_reserved-requires g c =
    let b = c.args.self.now in
    let sheet = c.pull.new.self in
    let w = ready g (goal.at.push_reserved-requires g c).In_ok-slip in
    omega (arith, w.few, outs_few (vec_items sheet.rows), length_push (vec_items b.slips) c.in_ok-slip.slip, sheet.few, sheet.rows.ok.0, b.slips.ok.0, b.room)

pub invariant_of-self-2-clause-ready : goal.invariant_of-self-2-clause-ready
invariant_of-self-2-clause-ready g c = subst (Ready (state c.pull.new.self)) (sym c.push_reserved.ensures.items) (ready g (goal.at.invariant_of-self-2-clause-ready g c).In_ok-slip)
