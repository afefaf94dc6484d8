use Rattle.std.proofs.Common.{◌≡◌, ◌+◌, ◌-◌, ◌<◌, length, vec_items, ap, ◌∙◌, subst, arith}
use Rattle.sheets.proofs.TallySweep.{looked, sweeps, sweeps_more, length_sweeps}
use Rattle.sheets.proofs.sheet.Sheet.sweep.Goals as goal

pub loop-i-preserved : goal.loop-i-preserved
loop-i-preserved g c =
    let s = c.args.self.now in
    let m = g.G.Goal.means s.goal in
    let xs = vec_items s.rows in
    let ys = vec_items c.loop-i.self.rows in
    let k = c.loop-i.i - 1 in
    let h : k < length xs = omega (arith, s.rows.ok.0) in
    let up : c.loop-i.i ≡ k + 1 = omega arith in
    let is : ys ≡ sweeps m xs (k + 1) = subst (λ i. ys ≡ sweeps m xs i) up c.loop-i.invariant.0 in
    let same : g.G.Goal.means c.loop-i.self.goal ≡ m = ap g.G.Goal.means c.loop-i.invariant.2 in (
      subst (λ v. vec_items c.sweep_row.new.self.rows ≡ looked v ys k) same c.sweep_row.ensures.rows ∙ sweeps_more m xs ys k h is,
      c.sweep_row.ensures.given ∙ c.loop-i.invariant.1,
      c.sweep_row.ensures.same ∙ c.loop-i.invariant.2,
      c.sweep_row.ensures.tallied,
    )

pub overflow_sub-result : goal.overflow_sub-result
overflow_sub-result g c =
    let s = c.args.self.now in
    let l = length_sweeps (g.G.Goal.means s.goal) (vec_items s.rows) (vec_items c.loop-i.self.rows) c.loop-i.i (omega (arith, s.rows.ok.0)) c.loop-i.invariant.0 in
    omega (arith, c.loop-i.self.rows.ok.0, s.rows.ok.0, l.1)
