use Rattle.std.proofs.Common.{rules, ◌≡◌, true, false, nat_le, ◌∙◌}
use Rattle.std.proofs.lemmas.Iterator.{YieldsList-from_slice, IsFirst-from_position}
use borrow.Author.Tests.{tests}
use Rattle.claims.proofs.Firsts.{first_of}
use Rattle.claims.proofs.named.Named.first_no_such.Goals as goal

pub returns : goal.returns
returns g c =
    let m = g.G.Goal.means c.args.self.now.goal.now in
    let ds = c.args.self.now.duties.now in
    let e : c.map.result ≡ c.position.result = search rules in
    e ∙ first_of (λ d. nat_le m.duties d) ds c.position.result
    (IsFirst-from_position _ _ _ (λ d. nat_le m.duties d ≡ true) (λ d. nat_le m.duties d ≡ false) c.position.ensures.ran (YieldsList-from_slice ds cc) (λ x q k. search (rules, tests)) (λ x q k. search (rules, tests)))
