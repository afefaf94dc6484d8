use Rattle.std.proofs.Common.{◌≡◌, rules, true, false, ◌∙◌}
use Rattle.std.proofs.lemmas.Iterator.{YieldsList-from_slice, IsFirst-from_position}
use borrow.Author.Tests.{tests}
use Rattle.sheets.proofs.Losses.{first_true}
use Rattle.sheets.proofs.losing.first_left.Goals as goal

pub returns : goal.returns
returns c =
    let e : c.map.result ≡ c.position.result = search rules in
    e ∙ first_true c.args.left.now c.position.result
    (IsFirst-from_position _ _ _ (λ b. b ≡ true) (λ b. b ≡ false) c.position.ensures.ran (YieldsList-from_slice c.args.left.now cc) (λ x q k. search (rules, tests)) (λ x q k. search (rules, tests)))
