-- The library asks each of the list whether it is the duty; so does the definition.
use Rattle.std.proofs.Common.{◌≡◌, ℕ, ◌||◌, List, [], ◌∷◌, eqb, refl, ap, ◌∙◌}
use Rattle.std.specs.List.{list_any}
use Rattle.goals.specs.Naming.{names}
use Rattle.goals.proofs.excusing.is_named.Goals as goal

any_named : (xs : List ℕ) (d : ℕ) → list_any (λ x. eqb x d) xs ≡ names xs d
any_named [] d = refl
any_named (x ∷ xs) d = ap (λ b. eqb x d || b) (any_named xs d)

pub returns : goal.returns
returns c = c.contains.ensures.value ∙ any_named c.args.duties.now c.args.duty
