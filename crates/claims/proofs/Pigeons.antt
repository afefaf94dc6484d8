-- More places than holes: two places have the same hole.
use Rattle.std.proofs.Common.{◌≡◌, ℕ, zero, suc, ◌<◌, Bool, cond, eqb, Some, None, Option, arith}
use Rattle.std.proofs.lemmas.Bool.{eqb-true, eqb-false}
use Rattle.std.proofs.lemmas.Bool.Decides.{nat_tests}
use Rattle.cubes.specs.Searching.{First, least}
use Rattle.cubes.proofs.Searches.{least_first}

-- two of the first n places that f sends to the same hole
pub record Shared (n : ℕ) (f : ℕ → ℕ) : Type 0 where
  pub earlier : ℕ
  pub later : ℕ
  pub order : earlier < later
  pub within : later < n
  pub same : f earlier ≡ f later

-- what was at the last hole goes where the last place was
abbrev moved : (k n : ℕ) (f : ℕ → ℕ) → ℕ → ℕ
moved k n f q = cond (eqb (f q) k) (f n) (f q)

pub pigeon : (k n : ℕ) (f : ℕ → ℕ) → ((p : ℕ) → p < n → f p < k) → k < n → Shared n f
pigeon zero n f h l = absurd (omega (arith, h 0 l))
pigeon (suc k) zero f h l = absurd (omega arith)
pigeon (suc k) (suc n) f h l = step (least n same_hole) (least_first n same_hole) (λ b. pigeon k n (moved k n f) b (omega arith))
  where
    same_hole : ℕ → Bool
    same_hole q = eqb (f q) (f n)

    step : (o : Option ℕ) → First n same_hole o → (((p : ℕ) → p < n → moved k n f p < k) → Shared n (moved k n f)) → Shared (suc n) f
    step (Some q) w ih = record { earlier = q; later = n; order = w.0; within = omega arith; same = eqb-true (f q) (f n) w.1 }
    step None w ih =
        let s = ih below in
        record { earlier = s.earlier; later = s.later; order = s.order; within = omega (arith, s.within); same = back s }
      where
        other : (q : ℕ) → q < n → f q ≡ f n → ⊥
        other q m = eqb-false (f q) (f n) (w q m)

        below : (p : ℕ) → p < n → moved k n f p < k
        below p m = let a = h p (omega arith) in let b = h n (omega arith) in let o = other p m in grind (arith, nat_tests)

        back : (s : Shared n (moved k n f)) → f s.earlier ≡ f s.later
        back s =
            let a = s.order in
            let b = s.within in
            let e = s.same in
            let x = other s.earlier (omega arith) in
            let y = other s.later (omega arith) in
            grind (arith, nat_tests)
