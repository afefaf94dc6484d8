-- After the calls that take no slip, the slips in hand are those of the rows that are out.
use Rattle.std.proofs.Common.{vec_items, sym, subst}
use Rattle.sheets.specs.Sheets.{state}
use Rattle.runs.specs.Hands.{Ready}
use Rattle.runs.proofs.Readiness.{ready_enter, ready_cover, ready_join, ready_sweep}
use Rattle.runs.proofs.bench.Bench.step.Goals as goal

pub invariant_of-self-clause-ready : goal.invariant_of-self-clause-ready
invariant_of-self-clause-ready g c =
    let b = c.args.self.now in
    subst (λ s. Ready s (vec_items b.slips)) (sym c.enter.ensures.after) (ready_enter (state b.sheet) (vec_items b.slips) b.ready (g.G.Goal.means b.sheet.goal) c.in-Enter.cube)

pub invariant_of-self-in-Cover-clause-ready : goal.invariant_of-self-in-Cover-clause-ready
invariant_of-self-in-Cover-clause-ready g c =
    let b = c.args.self.now in
    subst (λ s. Ready s (vec_items b.slips)) (sym c.cover.ensures.after) (ready_cover (state b.sheet) (vec_items b.slips) b.ready (g.G.Goal.means b.sheet.goal) c.in-Cover.duty)

pub invariant_of-self-in-Join-clause-ready : goal.invariant_of-self-in-Join-clause-ready
invariant_of-self-in-Join-clause-ready g c =
    let b = c.args.self.now in
    subst (λ s. Ready s (vec_items b.slips)) (sym c.join.ensures.after) (ready_join (state b.sheet) (vec_items b.slips) b.ready c.in-Join.first c.in-Join.second)

pub invariant_of-self-in-Sweep-clause-ready : goal.invariant_of-self-in-Sweep-clause-ready
invariant_of-self-in-Sweep-clause-ready g c =
    let b = c.args.self.now in
    subst (λ s. Ready s (vec_items b.slips)) (sym c.sweep.ensures.after) (ready_sweep (state b.sheet) (vec_items b.slips) b.ready (g.G.Goal.means b.sheet.goal))
