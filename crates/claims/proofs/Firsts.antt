-- The first place of a list whose duty passes a test, and whether one before a place does: as the library finds it, and as
-- the verdict says it.
use Rattle.std.proofs.Common.{◌≡◌, ℕ, ◌<◌, ◌≤◌, Bool, true, false, List, length, take, eqb, is_some, Some, None, Option, MatchOption, sym, ap, ◌∙◌, subst, length-take, arith}
use Rattle.std.proofs.lemmas.List.{get_or-take}
use Rattle.std.specs.List.{AllWithin, HoldsAt, IsAnyAnswer}
use Rattle.cubes.specs.Searching.{least}
use Rattle.cubes.proofs.Searches.{first_least, least_found}
use Rattle.claims.specs.Claims.{duty_at}

pub first_of : (test : ℕ → Bool) (ds : List ℕ) (o : Option ℕ) →
    MatchOption o (AllWithin (λ d. test d ≡ false) ds 0 (length ds)) (λ i. (i < length ds) × HoldsAt (λ d. test d ≡ true) ds i × AllWithin (λ d. test d ≡ false) ds 0 i) →
    o ≡ least (length ds) (λ p. test (duty_at ds p))
first_of test ds None h = first_least (length ds) (λ p. test (duty_at ds p)) None (λ k l. h k 0 (omega arith) l)
first_of test ds (Some i) h = first_least (length ds) (λ p. test (duty_at ds p)) (Some i) (h.0, h.1 0, λ k l. h.2 k 0 (omega arith) l)

-- whether a duty stands among the first places
named_in : (ds : List ℕ) (p d : ℕ) (r : Bool) → p ≤ length ds → IsAnyAnswer (λ y b. eqb y d ≡ b) (take p ds) r → r ≡ is_some (least p (λ q. eqb (duty_at ds q) d))
named_in ds p d true l h =
    let k : h.0 < p = omega (arith, h.1, length-take p ds) in
    sym (least_found p (λ q. eqb (duty_at ds q) d) h.0 k (ap (λ x. eqb x d) (sym (get_or-take p ds h.0 0 k)) ∙ h.2 0))
named_in ds p d false l h =
    ap is_some (first_least p (λ q. eqb (duty_at ds q) d) None (λ k k<. ap (λ x. eqb x d) (sym (get_or-take p ds k 0 k<)) ∙ h k 0 (omega arith) (omega (arith, length-take p ds))))

-- the same of the places before p, however they were cut out
pub any_before : (ds : List ℕ) (p d : ℕ) (xs : List ℕ) (r : Bool) → p ≤ length ds → xs ≡ take p ds → IsAnyAnswer (λ y b. eqb y d ≡ b) xs r → r ≡ is_some (least p (λ q. eqb (duty_at ds q) d))
any_before ds p d xs r l e h = named_in ds p d r l (subst (λ ys. IsAnyAnswer (λ y b. eqb y d ≡ b) ys r) e h)
