use Rattle.std.proofs.Common.{◌≡◌, length, get_or, take, Some, None, sym, ◌∙◌, arith, below_more}
use Rattle.cubes.proofs.Searches.{first_least}
use Rattle.claims.specs.Claims.{named_before}
use Rattle.claims.proofs.Firsts.{any_before}
use Rattle.claims.proofs.named.Named.first_named_before.Goals as goal

pub returns-then-contains : goal.returns-then-contains
returns-then-contains g c =
    let ds = c.args.self.now.duties.now in
    let p = c.loop-place.place in
    let part : _ ≡ take p ds = grind arith in
    let here = any_before ds p (get_or ds p 0) _ c.contains.result (omega arith) part c.contains.ensures.cases in
    first_least (length ds) (named_before ds) (Some p) (c.loop-place-test.true, sym here ∙ c.if-contains.true, c.loop-place.invariant)

pub loop-place-preserved : goal.loop-place-preserved
loop-place-preserved g c =
    let ds = c.args.self.now.duties.now in
    let p = c.loop-place.place in
    let part : _ ≡ take p ds = grind arith in
    let here = any_before ds p (get_or ds p 0) _ c.contains.result (omega arith) part c.contains.ensures.cases in
    below_more _ _ c.loop-place.invariant (sym here ∙ c.if-contains.false)

pub returns : goal.returns
returns g c =
    let ds = c.args.self.now.duties.now in
    first_least (length ds) (named_before ds) None (λ k h. c.loop-place.invariant k (omega arith))
