-- The smallest number that passes a test, as a relation and as a function: they say the same.
use Rattle.std.proofs.Common.{◌≡◌, ℕ, zero, suc, ◌<◌, ◌≤◌, Bool, true, false, is_some, Some, None, Option, sym, refl, ap, ◌∙◌, subst, ⊎_elim, arith}
use Rattle.std.proofs.lemmas.Bool.{cases_lt, cases_order, both_ways}
use Rattle.cubes.specs.Searching.{NoneBelow, Smallest, First, or_here, least}

one_more : (n : ℕ) (test : ℕ → Bool) → NoneBelow n test → test n ≡ false → NoneBelow (suc n) test
one_more n test below here k h =
    ⊎_elim (λ (l : k < n). below k l) (λ (l : n ≤ k). let s : n ≡ k = omega arith in subst (λ (j : ℕ). test j ≡ false) s here) (cases_lt k n)

here_or : (n : ℕ) (test : ℕ → Bool) (o : Option ℕ) (b : Bool) → First n test o → test n ≡ b → First (suc n) test (or_here o n b)
here_or n test (Some k) b h e = (let l = h.0 in omega arith, h.1, h.2)
here_or n test None true h e = (omega arith, e, h)
here_or n test None false h e = one_more n test h e

pub least_first : (n : ℕ) (test : ℕ → Bool) → First n test (least n test)
least_first zero test = λ k h. absurd (omega arith)
least_first (suc n) test = here_or n test (least n test) (test n) (least_first n test) refl

-- there is only one
only_first : (n : ℕ) (test : ℕ → Bool) (a b : Option ℕ) → First n test a → First n test b → a ≡ b
only_first n test None None p q = refl
only_first n test None (Some k) p q = absurd (both_ways _ (p k q.0) q.1)
only_first n test (Some k) None p q = absurd (both_ways _ (q k p.0) p.1)
only_first n test (Some j) (Some k) p q =
    ⊎_elim (λ (e : j ≡ k). ap Some e)
    (⊎_elim (λ (l : j < k). absurd (both_ways _ (q.2 j l) p.1)) (λ (l : k < j). absurd (both_ways _ (p.2 k l) q.1)))
    (cases_order j k)

pub first_least : (n : ℕ) (test : ℕ → Bool) (o : Option ℕ) → First n test o → o ≡ least n test
first_least n test o h = only_first n test o (least n test) h (least_first n test)

-- where none is found, none passes
pub least_none : (n : ℕ) (test : ℕ → Bool) → least n test ≡ None → NoneBelow n test
least_none n test e = subst (First n test) e (least_first n test)

pub least_some : (n : ℕ) (test : ℕ → Bool) (k : ℕ) → least n test ≡ Some k → Smallest n test k
least_some n test k e = subst (First n test) e (least_first n test)

-- what passes below n is found, or something before it
pub least_found : (n : ℕ) (test : ℕ → Bool) (k : ℕ) → k < n → test k ≡ true → is_some (least n test) ≡ true
least_found n test k l e = found (least n test) (least_first n test)
  where
    found : (o : Option ℕ) → First n test o → is_some o ≡ true
    found None h = absurd (both_ways _ (h k l) e)
    found (Some j) h = refl

-- a search that goes further finds the same, where nothing passes there
pub least_further : (n k : ℕ) (p q : ℕ → Bool) → k ≤ n → ((d : ℕ) → d < n → p d ≡ q d) → ((d : ℕ) → k ≤ d → q d ≡ false) → least n p ≡ least k q
least_further n k p q le same above = first_least k q (least n p) (nearer (least n p) (least_first n p))
  where
    nearer : (o : Option ℕ) → First n p o → First k q o
    nearer None h = λ d l. sym (same d (omega arith)) ∙ h d (omega arith)
    nearer (Some j) h =
        let l : j < n = h.0 in
        let passes : q j ≡ true = sym (same j l) ∙ h.1 in
        (⊎_elim (λ (lt : j < k). lt) (λ (ge : k ≤ j). absurd (both_ways _ (above j ge) passes)) (cases_lt j k), passes, λ d b. sym (same d (omega arith)) ∙ h.2 d b)
