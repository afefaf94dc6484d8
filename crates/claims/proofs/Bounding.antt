-- A claim is accepted exactly when its duties are independent, and then no complete list of cubes is shorter.
use Rattle.std.proofs.Common.{◌≡◌, ℕ, suc, ◌<◌, ◌≤◌, Bool, true, false, cond, not, ◌||◌, eqb, List, [], ◌∷◌, length, get_or, None, Ok, Result, sym, refl, ap, ◌∙◌, inl, inr, arith}
use Rattle.std.proofs.lemmas.Bool.{cases_lt, le-ltb, lt-leb, ltb-false, eqb-false, ne_eqb, not-false, both_ways}
use Rattle.cubes.specs.declared.cube.Cube.{Cube}
use Rattle.cubes.proofs.Searches.{first_least, least_none, least_found}
use Rattle.goals.specs.Goals.{Meaning, Lawful, vectors, covered_at, Coverable}
use Rattle.goals.proofs.Wanting.{wanted_below}
use Rattle.claims.specs.Claims.{duty_at, coverable, no_such, named_before, unwanted, uncoverable, verdict}
use Rattle.claims.specs.Bounds.{Independent, covered_by, Complete, Bound}
use Rattle.claims.specs.declared.refusal.ClaimRefusal.{ClaimRefusal}
use Rattle.claims.proofs.Found.{none_passes, none_found, one_found}
use Rattle.claims.proofs.Clashes.{clash_is, no_clash}
use Rattle.claims.proofs.Cuts.{cut, cut_agrees, filled, filled_below, filled_refines}
use Rattle.claims.proofs.Pigeons.{Shared, pigeon}
use Rattle.claims.proofs.Verdicts.{judged_ok, judged_is}

module _ (m : Meaning) (lawful : Lawful m) where
  -- what a cube covers, the vector that has its ones and else zeros covers too
  pub vector_covers : (c : Cube) (d : ℕ) → m.covers c d ≡ true → covered_at m d (filled m.inputs c) ≡ true
  vector_covers c d t =
      lawful.refined _ (cut m.inputs c) d (filled_refines m.inputs c) (sym (lawful.own_inputs c (cut m.inputs c) d (cut_agrees m.inputs c)) ∙ t)

  -- the place of the first cube that covers a duty
  abbrev place : List Cube → ℕ → ℕ
  place [] d = 0
  place (c ∷ cs) d = cond (m.covers c d) 0 (suc (place cs d))

  abbrev blank : Cube
  blank = record { zeros = 0; ones = 0; apart = refl }

  abbrev Placed : List Cube → ℕ → ℕ → Type 0
  Placed cubes d k = (k < length cubes) × (m.covers (get_or cubes k blank) d ≡ true)

  placed : (cubes : List Cube) (d : ℕ) → covered_by m cubes d ≡ true → Placed cubes d (place cubes d)
  placed [] d t = absurd (both_ways _ refl t)
  placed (c ∷ cs) d t = step (m.covers c d) refl t (placed cs d)
    where
      step : (b : Bool) → m.covers c d ≡ b → (b || covered_by m cs d) ≡ true → (covered_by m cs d ≡ true → Placed cs d (place cs d)) → Placed (c ∷ cs) d (cond b 0 (suc (place cs d)))
      step true e t next = (omega arith, e)
      step false e t next = let r = next t in (omega (arith, r.0), r.1)

  module _ (ds : List ℕ) where
    independent_accepted : Independent m ds → verdict m ds ≡ Ok (length ds)
    independent_accepted i =
        sym (judged_is m ds false None None None None None
        (sym (le-ltb 256 (length ds) i.few))
        (first_least (length ds) (no_such m ds) None (λ p l. lt-leb _ _ (wanted_below m lawful (duty_at ds p) (i.each_wanted p l))))
        (first_least (length ds) (named_before ds) None (λ p l. none_passes p (λ q. eqb (duty_at ds q) (duty_at ds p)) (λ q k. ne_eqb _ _ (i.none_twice q p k l))))
        (first_least (length ds) (unwanted m ds) None (λ p l. ap not (i.each_wanted p l)))
        (first_least (length ds) (uncoverable m ds) None (λ p l. ap not (so_coverable (duty_at ds p) (i.each_coverable p l))))
        (clash_is m ds None (λ q p l k b. i.no_two b.0 b.1 q p l k b.2.0 b.2.1)))
      where
        so_coverable : (d : ℕ) → Coverable m d → coverable m d ≡ true
        so_coverable d c = least_found (vectors m) (covered_at m d) c.0 c.1 c.2

    accepted_independent : (n : ℕ) → verdict m ds ≡ Ok n → Independent m ds × (n ≡ length ds)
    accepted_independent n v =
        let h = judged_ok _ _ _ _ _ _ _ n v in (
          record {
            few = ltb-false 256 (length ds) h.0;
            none_twice = λ q p l k. eqb-false _ _ (none_found p (λ q. eqb (duty_at ds q) (duty_at ds p)) (least_none (length ds) (named_before ds) h.2 p k) q l);
            each_wanted = λ p l. not-false _ (least_none (length ds) (unwanted m ds) h.3 p l);
            each_coverable = λ p l. one_found (vectors m) (covered_at m (duty_at ds p)) (not-false _ (least_none (length ds) (uncoverable m ds) h.4 p l));
            no_two = λ v b q p l k s t. no_clash m ds h.5 q p l k (v, b, (s, t));
          },
          h.6,
        )

    none_shorter : Independent m ds → (cubes : List Cube) → Complete m cubes → length ds ≤ length cubes
    none_shorter i cubes all = elim (cases_lt (length cubes) (length ds)) [ inr l ↦ l | inl l ↦ absurd (clashes (pigeon (length cubes) (length ds) (λ p. place cubes (duty_at ds p)) (λ p k. (at p k).0) l)) ]
      where
        at : (p : ℕ) → p < length ds → Placed cubes (duty_at ds p) (place cubes (duty_at ds p))
        at p l = placed cubes (duty_at ds p) (all (duty_at ds p) (i.each_wanted p l) (i.each_coverable p l))

        clashes : Shared (length ds) (λ p. place cubes (duty_at ds p)) → ⊥
        clashes s =
            let q = s.earlier in
            let p = s.later in
            let c : Cube = get_or cubes (place cubes (duty_at ds p)) blank in
            let a : m.covers c (duty_at ds q) ≡ true = ap (λ k. m.covers (get_or cubes k blank) (duty_at ds q)) (sym s.same) ∙ (at q (omega (arith, s.order, s.within))).1 in
            i.no_two (filled m.inputs c) (filled_below m.inputs c) q p s.order s.within
            (vector_covers c (duty_at ds q) a) (vector_covers c (duty_at ds p) (at p s.within).1)

    pub bound : (r : Result ℕ ClaimRefusal) → r ≡ verdict m ds → Bound m ds r
    bound r e = record {
      accepted = λ i. e ∙ independent_accepted i;
      only_then = λ n h. accepted_independent n (sym e ∙ h);
      no_shorter = λ n h cubes all. (let o = accepted_independent n (sym e ∙ h) in let s = none_shorter o.0 cubes all in omega (arith, o.1));
    }
