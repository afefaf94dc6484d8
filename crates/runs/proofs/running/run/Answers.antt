use Rattle.std.proofs.Common.{◌≡◌, ◌+◌, [], ◌∷◌, ◌++◌, get_or, take, sym, ap, ◌∙◌, subst, arith}
use Rattle.std.proofs.lemmas.List.{take_all}
use Rattle.goals.specs.Goals.{Meaning}
use Rattle.sheets.specs.Sheets.{Outcome, state, new}
use Rattle.sheets.specs.Running.{does, after, answers}
use Rattle.sheets.proofs.Whole.{after_more}
use Rattle.claims.specs.Claims.{verdict}
use Rattle.claims.specs.Bounds.{Bound}
use Rattle.runs.proofs.Finishing.{answers_more, promised}
use Rattle.runs.proofs.running.run.Goals as goal

pub loop-call-preserved : goal.loop-call-preserved
loop-call-preserved g c =
    let m = g.G.Goal.means c.args.goal in
    let calls = c.args.calls.now in
    let i = c.loop-call.call-index in
    let k = c.call-item.result in
    let v = c.loop-call.invariant in
    let s = state c.loop-call.bench.sheet in
    let e : does (g.G.Goal.means c.loop-call.bench.sheet.goal) s k ≡ does m (after m new (take i calls)) (get_or calls i k) =
    ap (λ x. does (g.G.Goal.means x) s k) v.2 ∙ ap (λ t. does m t k) v.0 ∙ ap (does m (after m new (take i calls))) c.call-item.is in (
      c.step-answer.ensures.after ∙ ap (λ (o : Outcome). o.after) e ∙ sym (after_more m new calls i k c.loop-call-test.true),
      c.push_reserved.ensures.items ∙ ap (λ l. l ++ (c.step-answer.result ∷ [])) v.1 ∙ ap (λ a. answers m new (take i calls) ++ (a ∷ [])) (c.step-answer.ensures.answer ∙ ap (λ (o : Outcome). o.answer) e) ∙ sym (answers_more m new calls i k c.loop-call-test.true),
      c.step-answer.ensures.same ∙ v.2,
      omega (arith, c.push_reserved.ensures.capacity, v.3),
      c.push_reserved.ensures.len ∙ ap (λ n. n + 1) v.4,
    )

pub returns-clause-promise : goal.returns-clause-promise
returns-clause-promise g c =
    let calls = c.args.calls.now in
    let v = c.loop-call.invariant in
    let m = g.G.Goal.means c.args.goal in
    let all : take c.loop-call.call-index calls ≡ calls = take_all c.loop-call.call-index calls c.loop-call-test.false in
    let asked : g.G.Goal.means c.goal.result.now ≡ m = ap g.G.Goal.means (c.goal.ensures ∙ c.put_all_back-sheet.ensures.same ∙ v.2) in
    let back = c.put_all_back-sheet.ensures.back in
    promised m (g.met.G.Goal.lawful c.args.goal) calls c.args.claimed.now _ (state c.loop-call.bench.sheet) _ c.claim-verdict.result (v.1 ∙ ap (answers m new) all) (v.0 ∙ ap (after m new) all) back.0 back.1 c.put_all_back-sheet.ensures.ready
    (c.claim-verdict.ensures.answer ∙ ap (λ x. verdict x c.args.claimed.now) asked)
    (subst (λ (x : Meaning). Bound x c.args.claimed.now c.claim-verdict.result) asked c.claim-verdict.ensures.bound)
