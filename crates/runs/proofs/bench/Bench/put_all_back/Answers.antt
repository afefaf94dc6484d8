-- Each turn puts one row back, and hands its slip in.
use Rattle.std.proofs.Common.{◌≡◌, [], ◌∷◌, ◌++◌, Some, vec_items, sym, ap, ◌∙◌, subst, arith, rules}
use Rattle.std.proofs.lemmas.List.{nil_from_length}
use Rattle.sheets.specs.Sheets.{state}
use Rattle.sheets.specs.Pulling.{put_back}
use Rattle.runs.specs.Hands.{Ready, Taken}
use Rattle.runs.proofs.Slips.{taken_push}
use Rattle.runs.proofs.Readiness.{ready_put_back}
use Rattle.runs.proofs.Backs.{put_backs_push}
use Rattle.runs.proofs.bench.Bench.put_all_back.Goals as goal

pub loop-slip-preserved : goal.loop-slip-preserved
loop-slip-preserved g c =
    let v = c.loop-slip.invariant in
    let p = c.in-Some.slip in
    let qs = vec_items c.pop.new.self in
    let ps = vec_items c.loop-slip.slips in
    let t : Taken ps p.serial qs (Some p) = subst (λ l. Taken l p.serial qs (Some p)) (sym c.in-Some.ensures.items) (taken_push qs p) in
    let e = c.put_back.ensures.after in (
      (v.0.0 ++ (p.serial ∷ []), e ∙ ap (λ s. (put_back s p.serial).after) v.0.1 ∙ sym (put_backs_push (state c.args.self.sheet) v.0.0 p.serial)),
      subst (λ s. Ready s qs) (sym e) (ready_put_back (state c.loop-slip.sheet) ps v.1 qs p p.serial t),
      c.put_back.ensures.same ∙ v.2,
    )

pub returns : goal.returns
returns g c =
    let e : vec_items c.loop-slip.slips ≡ [] = nil_from_length (vec_items c.loop-slip.slips) (omega (arith, c.loop-slip.slips.ok.0, c.in_default.ensures.cases.0)) in
    search rules
