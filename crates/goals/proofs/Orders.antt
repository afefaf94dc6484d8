-- The pairs of n + 1 machines are all there, the smaller first, in rising order.
use Rattle.std.proofs.Common.{◌≡◌, ℕ, zero, suc, ◌+◌, ◌-◌, ◌<◌, ◌≤◌, ◌⊎◌, Some, Option, sym, refl, ap, ◌∙◌, inl, inr, arith}
use Rattle.std.proofs.lemmas.Bool.{cases_lt}
use Rattle.std.specs.List.{slice_get}
use Rattle.goals.specs.Distinguishing.{pairs, InOrder}
use Rattle.goals.specs.Pairs.{pairs_in, pairs_past}

abbrev some : ℕ → ℕ → Option (ℕ × ℕ)
some i j = Some (i, j)

-- the pair at a place: of the first row, or later
abbrev Found : ℕ → ℕ → ℕ → (ℕ × ℕ) → Type 0
Found n a d x = ((d < suc n) × (x.0 ≡ a) × (x.1 ≡ a + 1 + d)) ⊎ ((suc n ≤ d) × (slice_get (pairs (a + 1) n) (d - suc n) ≡ Some x))

found : (n a d : ℕ) (x : ℕ × ℕ) → slice_get (pairs a (suc n)) d ≡ Some x → Found n a d x
found n a d x e = elim (cases_lt d (suc n)) [
  | inl l ↦ (let s : Some (a, a + 1 + d) ≡ Some x = sym (pairs_in a (suc n) d l) ∙ e in let p : x ≡ (a, a + 1 + d) = cc in inl (l, ap (λ (y : ℕ × ℕ). y.0) p, ap (λ (y : ℕ × ℕ). y.1) p))
  | inr l ↦ inr (l, sym (pairs_past a (suc n) n d refl l) ∙ e)
]

pub each : (n a d : ℕ) (x : ℕ × ℕ) → slice_get (pairs a n) d ≡ Some x → (a ≤ x.0) × (x.0 < x.1) × (x.1 ≤ a + n)
each zero a d x e = let z : ◌≡◌ {A = ℕ} 0 1 = cc in absurd (omega arith)
each (suc n) a d x e = elim (found n a d x e) [
  | inl f ↦ (omega (arith, f.1), omega (arith, f.1, f.2), omega (arith, f.0, f.2))
  | inr f ↦ (let r = each n (a + 1) (d - suc n) x f.1 in (omega (arith, r.0), r.1, omega (arith, r.2)))
]

all : (n a i j : ℕ) → a ≤ i → i < j → j ≤ a + n → (d : ℕ) × (slice_get (pairs a n) d ≡ Some (i, j))
all zero a i j h l k = absurd (omega arith)
all (suc n) a i j h l k = elim (cases_lt a i) [
  | inr g ↦ (let e : i ≡ a = omega arith in let f : a + 1 + (j - a - 1) ≡ j = omega arith in
      (j - a - 1, pairs_in a (suc n) (j - a - 1) (omega arith) ∙ pair (sym e) f))
  | inl g ↦ (let r = all n (a + 1) i j (omega arith) l (omega arith) in
      let s : suc n + r.0 - suc n ≡ r.0 = omega arith in
      (suc n + r.0, pairs_past a (suc n) n (suc n + r.0) refl (omega arith) ∙ ap (slice_get (pairs (a + 1) n)) s ∙ r.1))
]
  where
    pair : {p q : ℕ} {u v : ℕ} → p ≡ q → u ≡ v → some p u ≡ some q v
    pair {p} {q} {u} {v} e f = ap (λ k. some k u) e ∙ ap (λ k. some q k) f

rising : (n a d e : ℕ) (x y : ℕ × ℕ) → d < e → slice_get (pairs a n) d ≡ Some x → slice_get (pairs a n) e ≡ Some y → ((x.0 < y.0) ⊎ ((x.0 ≡ y.0) × (x.1 < y.1)))
rising zero a d e x y h p q = let z : ◌≡◌ {A = ℕ} 0 1 = cc in absurd (omega arith)
rising (suc n) a d e x y h p q = elim (found n a d x p) [
  | inl f ↦ elim (found n a e y q) [
    | inl g ↦ inr (f.1 ∙ sym g.1, omega (arith, f.2, g.2))
    | inr g ↦ (let r = each n (a + 1) (e - suc n) y g.1 in inl (omega (arith, f.1, r.0)))
  ]
  | inr f ↦ elim (found n a e y q) [
    | inl g ↦ absurd (omega (arith, f.0, g.0))
    | inr g ↦ rising n (a + 1) (d - suc n) (e - suc n) x y (omega (arith, f.0, g.0)) f.1 g.1
  ]
]

pub in_order : (n a : ℕ) → InOrder a (a + n) (pairs a n)
in_order n a = record { each = each n a; all = all n a; rising = rising n a }
