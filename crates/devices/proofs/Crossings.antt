-- Two wide answers that oppose each other somewhere, and the two answers that they stand for.
use Rattle.std.proofs.Common.{◌≡◌, ℕ, zero, suc, ◌<◌, ◌≤◌, Bool, true, false, ◌&&◌, ◌||◌, slice_index, refl, sym, ◌∙◌, subst, inl, inr, ⊎_elim, arith}
use Rattle.std.proofs.lemmas.Bool.{cases_lt, or_cases, or_left, or_right, and_parts, and_from, both_ways}
use Rattle.cubes.specs.Masks.{bit, has}
use Rattle.cubes.proofs.Words.{bit_from_has, has_from_bit}
use Rattle.devices.specs.Devices.{told_apart, Known}
use Rattle.devices.specs.Widely.{Column, opposed}
use Rattle.devices.specs.declared.answer.Answer.{Answer}
use Rattle.devices.specs.declared.wide.WideAnswer.{WideAnswer}
use Rattle.devices.proofs.Apart.{apart_at, apart_from}

-- at the k-th vector, output o is 0 in one and 1 in the other
abbrev opposed_here : WideAnswer → WideAnswer → ℕ → ℕ → Bool
opposed_here a b o k = (has (slice_index a.zeros o) k && has (slice_index b.ones o) k) || (has (slice_index a.ones o) k && has (slice_index b.zeros o) k)

opposed_at : (a b : WideAnswer) (n k : ℕ) → opposed a b n k ≡ true → (o : ℕ) × (o < n) × (opposed_here a b o k ≡ true)
opposed_at a b zero k t = absurd (both_ways false refl t)
opposed_at a b (suc n) k t =
    ⊎_elim
    (λ (h : opposed a b n k ≡ true). let r = opposed_at a b n k h in (r.0, omega arith, r.2))
    (λ (h : opposed_here a b n k ≡ true). (n, omega arith, h))
    (or_cases (opposed a b n k) (opposed_here a b n k) t)

opposed_from : (a b : WideAnswer) (n k o : ℕ) → o < n → opposed_here a b o k ≡ true → opposed a b n k ≡ true
opposed_from a b zero k o h t = absurd (omega arith)
opposed_from a b (suc n) k o h t =
    ⊎_elim
    (λ (l : o < n). or_left _ _ (opposed_from a b n k o l t))
    (λ (l : n ≤ o). let s : o ≡ n = omega arith in or_right _ _ (subst (λ (j : ℕ). opposed_here a b j k ≡ true) s t))
    (cases_lt o n)

-- two tests that pass together are the same
same_tests : (x y : Bool) → (x ≡ true → y ≡ true) → (y ≡ true → x ≡ true) → x ≡ y
same_tests true true p q = refl
same_tests true false p q = absurd (both_ways false refl (p refl))
same_tests false true p q = absurd (both_ways false refl (q refl))
same_tests false false p q = refl

-- what two wide answers say of the k-th vector is what the two answers say, where no output past the 32nd is known
pub told_by_words : (v w : WideAnswer) (a b : Answer) (k : ℕ) →
    Column v.zeros k a.zeros → Column v.ones k a.ones → Column w.zeros k b.zeros → Column w.ones k b.ones →
    ((o : ℕ) → Known a o → o < 32) → opposed v w 32 k ≡ told_apart a b
told_by_words v w a b k vz vo wz wo few = same_tests _ _ there back
  where
    there : opposed v w 32 k ≡ true → told_apart a b ≡ true
    there t =
        let r = opposed_at v w 32 k t in
        let o = r.0 in
        apart_from a b o (⊎_elim
        (λ (h : (has (slice_index v.zeros o) k && has (slice_index w.ones o) k) ≡ true).
        let p = and_parts (has (slice_index v.zeros o) k) (has (slice_index w.ones o) k) h in
        inl (bit_from_has a.zeros o (sym (vz o r.1) ∙ p.0), bit_from_has b.ones o (sym (wo o r.1) ∙ p.1)))
        (λ (h : (has (slice_index v.ones o) k && has (slice_index w.zeros o) k) ≡ true).
        let p = and_parts (has (slice_index v.ones o) k) (has (slice_index w.zeros o) k) h in
        inr (bit_from_has a.ones o (sym (vo o r.1) ∙ p.0), bit_from_has b.zeros o (sym (wz o r.1) ∙ p.1)))
        (or_cases (has (slice_index v.zeros o) k && has (slice_index w.ones o) k) (has (slice_index v.ones o) k && has (slice_index w.zeros o) k) r.2))

    back : told_apart a b ≡ true → opposed v w 32 k ≡ true
    back t =
        let r = apart_at a b t in
        let o = r.0 in
        ⊎_elim
        (λ (p : (bit a.zeros o ≡ 1) × (bit b.ones o ≡ 1)).
        let l : o < 32 = few o (inl p.0) in
        opposed_from v w 32 k o l (or_left _ _ (and_from _ _ (vz o l ∙ has_from_bit a.zeros o p.0) (wo o l ∙ has_from_bit b.ones o p.1))))
        (λ (p : (bit a.ones o ≡ 1) × (bit b.zeros o ≡ 1)).
        let l : o < 32 = few o (inr p.0) in
        opposed_from v w 32 k o l (or_right _ _ (and_from _ _ (vo o l ∙ has_from_bit a.ones o p.0) (wz o l ∙ has_from_bit b.zeros o p.1))))
        r.1
