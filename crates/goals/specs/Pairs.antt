-- The list of pairs: what stands at a place of it, how long it is, and what is left of it from a pair on.
use Rattle.std.specs.Prelude.{◌≡◌, ℕ, zero, suc, ◌+◌, ◌-◌, ◌*◌, ◌/◌, ◌<◌, ◌≤◌, List, [], ◌∷◌, ◌++◌, length, drop, Some, None, Option, refl}
use Rattle.std.proofs.Common.{◌∙◌, ap, mul-add, add-mul, mul-le-mul, arith}
use Rattle.std.proofs.lemmas.List.{length-append}
use Rattle.std.specs.List.{slice_get}
use Rattle.goals.specs.Distinguishing.{with_each, pairs}

abbrev some_pair : ℕ → ℕ → Option (ℕ × ℕ)
some_pair i j = Some (i, j)

-- within the first row, and past it
row_in : (n i j d : ℕ) (rest : List (ℕ × ℕ)) → d < n → slice_get (with_each i j n ++ rest) d ≡ Some (i, j + d)
row_in zero i j d rest h = absurd (omega arith)
row_in (suc n) i j zero rest h = let e : j ≡ j + 0 = omega arith in ap (λ (k : ℕ). some_pair i k) e
row_in (suc n) i j (suc d) rest h = let e : j + 1 + d ≡ j + suc d = omega arith in row_in n i (j + 1) d rest (omega arith) ∙ ap (λ (k : ℕ). some_pair i k) e

row_past : (n i j d : ℕ) (rest : List (ℕ × ℕ)) → n ≤ d → slice_get (with_each i j n ++ rest) d ≡ slice_get rest (d - n)
row_past zero i j d rest h = let e : d ≡ d - 0 = omega arith in ap (slice_get rest) e
row_past (suc n) i j zero rest h = absurd (omega arith)
row_past (suc n) i j (suc d) rest h = let e : d - n ≡ suc d - suc n = omega arith in row_past n i (j + 1) d rest (omega arith) ∙ ap (slice_get rest) e

pub pairs_in : (i n d : ℕ) → d < n → slice_get (pairs i n) d ≡ Some (i, i + 1 + d)
pairs_in i zero d h = absurd (omega arith)
pairs_in i (suc n) d h = row_in (suc n) i (i + 1) d (pairs (i + 1) n) h

pub pairs_past : (i n k d : ℕ) → n ≡ suc k → n ≤ d → slice_get (pairs i n) d ≡ slice_get (pairs (i + 1) k) (d - n)
pairs_past i n k d e h = rw e (row_past (suc k) i (i + 1) d (pairs (i + 1) k) (omega arith))

-- how many there are
length_with_each : (n i j : ℕ) → length (with_each i j n) ≡ n
length_with_each zero i j = refl
length_with_each (suc n) i j = ap suc (length_with_each n i (j + 1))

twice_pairs : (n i : ℕ) → length (pairs i n) * 2 ≡ n * (n + 1)
twice_pairs zero i = omega arith
twice_pairs (suc n) i =
    let a = length-append (with_each i (i + 1) (suc n)) (pairs (i + 1) n) in
    let b = length_with_each (suc n) i (i + 1) in
    let c = twice_pairs n (i + 1) in
    let d : suc n * (suc n + 1) ≡ n * (n + 1) + 2 * (n + 1) = square n in
    omega arith
  where
    square : (n : ℕ) → suc n * (suc n + 1) ≡ n * (n + 1) + 2 * (n + 1)
    square n =
        let e : suc n ≡ n + 1 = omega arith in
        let f = add-mul n 1 (n + 1 + 1) in
        let g = mul-add n (n + 1) 1 in
        ap (λ k. k * (k + 1)) e ∙ omega arith

pub pairs_length : (n i : ℕ) → n * (n + 1) / 2 ≡ length (pairs i n)
pairs_length n i = let e = twice_pairs n i in omega arith

pub pairs_few : (n i : ℕ) → n ≤ 254 → length (pairs i n) ≤ 32385
pairs_few n i h = let e = twice_pairs n i in let m : n * (n + 1) ≤ 254 * 255 = (let h' : n + 1 ≤ 255 = omega arith in mul-le-mul h h') in omega arith

-- what is left of the pairs of machines up to top, from (i, j) on
abbrev pub left_from : ℕ → ℕ → ℕ → List (ℕ × ℕ)
left_from top i j = with_each i j (top + 1 - j) ++ pairs (i + 1) (top - i - 1)

pub left_start : (n : ℕ) → pairs 1 n ≡ left_from (n + 1) 1 2
left_start zero = refl
left_start (suc n) = let e : suc n ≡ suc n + 1 + 1 - 2 = omega arith in let f : n ≡ suc n + 1 - 1 - 1 = omega arith in
    ap (λ k. with_each 1 2 k ++ pairs 2 n) e ∙ ap (λ k. with_each 1 2 (suc n + 1 + 1 - 2) ++ pairs 2 k) f

-- the next pair in the row
pub left_along : (top i j : ℕ) → j ≤ top → left_from top i j ≡ (i, j) ∷ left_from top i (j + 1)
left_along top i j h = let e : top + 1 - j ≡ suc (top + 1 - (j + 1)) = omega arith in ap (λ k. with_each i j k ++ pairs (i + 1) (top - i - 1)) e

-- the next row
pub left_down : (top i : ℕ) → i < top → left_from top i (top + 1) ≡ left_from top (i + 1) (i + 1 + 1)
left_down top i h =
    let e : top + 1 - (top + 1) ≡ 0 = omega arith in
    ap (λ k. with_each i (top + 1) k ++ pairs (i + 1) (top - i - 1)) e ∙ step (top - i - 1) (omega arith)
  where
    step : (n : ℕ) → top ≡ n + i + 1 → pairs (i + 1) n ≡ left_from top (i + 1) (i + 1 + 1)
    step zero t = let a : 0 ≡ top + 1 - (i + 1 + 1) = omega arith in let b : 0 ≡ top - (i + 1) - 1 = omega arith in
        ap (λ k. with_each (i + 1) (i + 1 + 1) k ++ pairs (i + 1 + 1) 0) a ∙ ap (λ k. with_each (i + 1) (i + 1 + 1) (top + 1 - (i + 1 + 1)) ++ pairs (i + 1 + 1) k) b
    step (suc n) t = let a : suc n ≡ top + 1 - (i + 1 + 1) = omega arith in let b : n ≡ top - (i + 1) - 1 = omega arith in
        ap (λ k. with_each (i + 1) (i + 1 + 1) k ++ pairs (i + 1 + 1) n) a ∙ ap (λ k. with_each (i + 1) (i + 1 + 1) (top + 1 - (i + 1 + 1)) ++ pairs (i + 1 + 1) k) b

pub left_none : (top j : ℕ) → top < j → left_from top top j ≡ []
left_none top j h = let a : top + 1 - j ≡ 0 = omega arith in let b : top - top - 1 ≡ 0 = omega arith in
    ap (λ k. with_each top j k ++ pairs (top + 1) (top - top - 1)) a ∙ ap (λ k. pairs (top + 1) k) b

-- what stands at a place, from what is left there
pub at_cons : {X : Type 0} (xs : List X) (d : ℕ) (x : X) (ys : List X) → drop d xs ≡ x ∷ ys → (slice_get xs d ≡ Some x) × (drop (d + 1) xs ≡ ys)
at_cons [] zero x ys e = let z : ◌≡◌ {A = ℕ} 0 1 = cc in absurd (omega arith)
at_cons [] (suc d) x ys e = let z : ◌≡◌ {A = ℕ} 0 1 = cc in absurd (omega arith)
at_cons (w ∷ ws) zero x ys e = (cc, cc)
at_cons (w ∷ ws) (suc d) x ys e =
    let r = at_cons ws d x ys e in
    let s : suc d + 1 ≡ suc (d + 1) = omega arith in
    (r.0, ap (λ k. drop k (w ∷ ws)) s ∙ r.1)

pub at_nil : {X : Type 0} (xs : List X) (d : ℕ) → drop d xs ≡ [] → (slice_get xs d ≡ None) × (drop (d + 1) xs ≡ [])
at_nil {X} [] d e = let s : d + 1 ≡ suc d = omega arith in (refl, ap (λ k. drop {A = X} k []) s)
at_nil (w ∷ ws) zero e = let z : ◌≡◌ {A = ℕ} 0 1 = cc in absurd (omega arith)
at_nil (w ∷ ws) (suc d) e =
    let r = at_nil ws d e in
    let s : suc d + 1 ≡ suc (d + 1) = omega arith in
    (r.0, ap (λ k. drop k (w ∷ ws)) s ∙ r.1)
