-- A list of marks made in two parts: the first part's marks, then the second's.
use Rattle.std.proofs.Common.{◌≡◌, ℕ, ◌+◌, ◌-◌, ◌<◌, ◌≤◌, Bool, true, false, cond, ◌&&◌, ltb, List, ◌++◌, length, get_or, refl, ap, ◌∙◌, inl, inr, arith}
use borrow.Rule.Slice.PartMut.{put_mid, post_of}
use Rattle.std.proofs.lemmas.List.{take_at, get_or_append_left, get_or-append_right}
use Rattle.std.proofs.lemmas.Bool.{cases_lt, lt-ltb, le-ltb}
use Rattle.goals.specs.Goals.{most_duties}
use Rattle.goals.specs.Joining.{of_two}

module _ (n k : ℕ) (xs rest ys : List Bool) (long : length xs ≡ n) where
  parts : put_mid n k (xs ++ rest) ys ≡ xs ++ (ys ++ post_of n k (xs ++ rest))
  parts = ap (λ zs. zs ++ (ys ++ post_of n k (xs ++ rest))) (take_at xs rest n long)

  in_first : (d : ℕ) → d < n → get_or (put_mid n k (xs ++ rest) ys) d false ≡ get_or xs d false
  in_first d h = ap (λ zs. get_or zs d false) parts ∙ get_or_append_left xs (ys ++ post_of n k (xs ++ rest)) false d (omega arith)

  in_second : (d : ℕ) → n ≤ d → d < n + length ys → get_or (put_mid n k (xs ++ rest) ys) d false ≡ get_or ys (d - n) false
  in_second d l h = ap (λ zs. get_or zs d false) parts ∙ get_or-append_right xs (ys ++ post_of n k (xs ++ rest)) n d false long l ∙ get_or_append_left ys (post_of n k (xs ++ rest)) false (d - n) (omega arith)

  pub of_parts : (p q : ℕ → Bool) → n ≤ most_duties → ((d : ℕ) → d < length xs → get_or xs d false ≡ p d) → ((d : ℕ) → d < length ys → get_or ys d false ≡ q d)
      → (d : ℕ) → d < n + length ys → (ltb d most_duties && get_or (put_mid n k (xs ++ rest) ys) d false) ≡ of_two n p q d
  of_parts p q few f g d h = elim (cases_lt d n) [
    | inl l ↦ (let a = lt-ltb d n l in let b = lt-ltb d most_duties (omega arith) in let e = in_first d l ∙ f d (omega arith) in both (ltb d most_duties) (ltb d n) (get_or (put_mid n k (xs ++ rest) ys) d false) b a e)
    | inr l ↦ (let a = le-ltb d n l in let e = in_second d l h ∙ g (d - n) (omega arith) in past (ltb d most_duties) (ltb d n) (get_or (put_mid n k (xs ++ rest) ys) d false) a e)
  ]
    where
      both : (s t v : Bool) → s ≡ true → t ≡ true → v ≡ p d → (s && v) ≡ cond t (p d) (s && q (d - n))
      both s t v e f g = rw (e, f) g

      past : (s t v : Bool) → t ≡ false → v ≡ q (d - n) → (s && v) ≡ cond t (p d) (s && q (d - n))
      past s t v f g = rw (f, g) refl
