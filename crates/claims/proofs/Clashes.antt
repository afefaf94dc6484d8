-- The earliest two places whose duties one vector covers: the search through the vectors keeps it, and it is the clash.
use Rattle.std.proofs.Common.{◌≡◌, ℕ, ◌+◌, ◌<◌, Bool, true, false, cond, ◌&&◌, ◌⊎◌, List, length, is_some, Some, None, Option, sym, refl, ap, ◌∙◌, inl, inr, arith}
use Rattle.std.proofs.lemmas.Bool.{cases_lt, cases_Bool, and_parts, and_from, both_ways}
use Rattle.std.proofs.lemmas.Bool.Decides.{nat_tests}
use Rattle.cubes.specs.Searching.{First, least}
use Rattle.cubes.proofs.Searches.{first_least, least_first, least_found}
use Rattle.goals.specs.Goals.{Meaning, vectors, covered_at}
use Rattle.claims.specs.Claims.{duty_at, together, partner, paired, with_partner, clash, Earliest, before, sooner}
use Rattle.claims.specs.declared.pair.Pair.{Pair}
use Rattle.claims.proofs.Found.{none_passes, one_found}

-- the sooner of the earliest of two relations is the earliest of both together
sooner_earliest : (n : ℕ) (R S T : ℕ → ℕ → Type 0) (a b : Option Pair)
    → ((q p : ℕ) → R q p → T q p) → ((q p : ℕ) → S q p → T q p) → ((q p : ℕ) → T q p → R q p ⊎ S q p)
    → Earliest n R a → Earliest n S b → Earliest n T (sooner a b)
sooner_earliest n R S T None None f g h x y = λ q p l m t. elim (h q p t) [ inl r ↦ x q p l m r | inr s ↦ y q p l m s ]
sooner_earliest n R S T None (Some b) f g h x y =
    (y.0, y.1, g _ _ y.2, λ q p l m t. elim (h q p t) [ inl r ↦ absurd (x q p l m r) | inr s ↦ y.3 q p l m s ])
sooner_earliest n R S T (Some a) None f g h x y =
    (x.0, x.1, f _ _ x.2, λ q p l m t. elim (h q p t) [ inl r ↦ x.3 q p l m r | inr s ↦ absurd (y q p l m s) ])
sooner_earliest n R S T (Some a) (Some b) f g h x y = step (before a b) refl
  where
    step : (c : Bool) → before a b ≡ c → Earliest n T (cond c (Some a) (Some b))
    step true e = (
      x.0,
      x.1,
      f _ _ x.2,
      λ q p l m t. elim (h q p t) [
        | inl r ↦ x.3 q p l m r
        | inr s ↦ (let z = y.3 q p l m s in grind (arith, nat_tests))
      ],
    )
    step false e = (
      y.0,
      y.1,
      g _ _ y.2,
      λ q p l m t. elim (h q p t) [
        | inl r ↦ (let z = x.3 q p l m r in grind (arith, nat_tests))
        | inr s ↦ y.3 q p l m s
      ],
    )

module _ (m : Meaning) (ds : List ℕ) where
  -- the vector with number v covers the duties at both places
  abbrev pub At : ℕ → ℕ → ℕ → Type 0
  At v q p = (covered_at m (duty_at ds q) v ≡ true) × (covered_at m (duty_at ds p) v ≡ true)

  -- some vector below n does
  abbrev pub Both : ℕ → ℕ → ℕ → Type 0
  Both n q p = (v : ℕ) × (v < n) × At v q p

  -- one vector more
  pub both_more : (n : ℕ) (a b r : Option Pair) → Earliest (length ds) (Both n) a → Earliest (length ds) (At n) b → r ≡ sooner a b → Earliest (length ds) (Both (n + 1)) r
  both_more n a b r x y is =
      rw is (sooner_earliest (length ds) (Both n) (At n) (Both (n + 1)) a b
      (λ q p r. (r.0, omega (arith, r.1), r.2))
      (λ q p s. (n, omega arith, s))
      (λ q p t. elim (cases_lt t.0 n) [
        | inl l ↦ inl (t.0, l, t.2)
        | inr l ↦ (let e : t.0 ≡ n = omega (arith, t.1) in inr (rw e at t.2))
      ])
      x y)

  abbrev tied : ℕ → ℕ → Bool
  tied p q = together m (duty_at ds q) (duty_at ds p)

  both_tied : (q p : ℕ) → Both (vectors m) q p → tied p q ≡ true
  both_tied q p b = least_found (vectors m) (λ v. covered_at m (duty_at ds q) v && covered_at m (duty_at ds p) v) b.0 b.1 (and_from _ _ b.2.0 b.2.1)

  not_tied : (q p : ℕ) → (Both (vectors m) q p → ⊥) → tied p q ≡ false
  not_tied q p n =
      elim (cases_Bool (tied p q)) [
        | inl t ↦ (let k = one_found (vectors m) (λ v. covered_at m (duty_at ds q) v && covered_at m (duty_at ds p) v) t in absurd (n (k.0, k.1, and_parts _ _ k.2)))
        | inr f ↦ f
      ]

  abbrev has_partner : ℕ → Bool
  has_partner p = is_some (partner m ds p)

  no_partner : (p : ℕ) → ((q : ℕ) → q < p → Both (vectors m) q p → ⊥) → has_partner p ≡ false
  no_partner p none = none_passes p (tied p) (λ q k. not_tied q p (none q k))

  -- the earliest pair that some vector covers is the clash
  pub clash_is : (o : Option Pair) → Earliest (length ds) (Both (vectors m)) o → o ≡ clash m ds
  clash_is None e = ap (with_partner m ds) (first_least (length ds) has_partner None (λ p l. no_partner p (λ q k. e q p k l)))
  clash_is (Some x) e =
      let here : Some x.earlier ≡ partner m ds x.later =
      first_least x.later (tied x.later) (Some x.earlier)
      (e.0, both_tied x.earlier x.later e.2, λ q k. not_tied q x.later (λ b. elim (e.3 q x.later (omega (arith, e.0)) e.1 b) [ inl l ↦ omega arith | inr l ↦ omega (arith, l.1) ])) in
      let first : Some x.later ≡ least (length ds) has_partner =
      first_least (length ds) has_partner (Some x.later)
      (e.1, ap is_some (sym here), λ p l. no_partner p (λ q k b. elim (e.3 q p k (omega (arith, e.1)) b) [ inl h ↦ omega arith | inr h ↦ omega (arith, h.0) ])) in
      ap (paired x.later) here ∙ ap (with_partner m ds) first

  -- where there is no clash, no vector covers two
  pub no_clash : clash m ds ≡ None → (q p : ℕ) → q < p → p < length ds → Both (vectors m) q p → ⊥
  no_clash e q p l k b = step (least (length ds) has_partner) (least_first (length ds) has_partner) e
    where
      inner : (r : ℕ) (o : Option ℕ) → is_some o ≡ true → paired r o ≡ None → ⊥
      inner r (Some q) t f = let z : ◌≡◌ {A = ℕ} 0 1 = cc in omega arith
      inner r None t f = both_ways _ refl t

      step : (o : Option ℕ) → First (length ds) has_partner o → with_partner m ds o ≡ None → ⊥
      step None f g = both_ways _ (f p k) (least_found p (tied p) q l (both_tied q p b))
      step (Some r) f g = inner r (partner m ds r) f.1 g
