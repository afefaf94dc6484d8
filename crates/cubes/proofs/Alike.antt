-- Cubes with the same masks are one cube, and what two cubes share.
use Rattle.std.proofs.Common.{◌≡◌, ℕ, ◌-◌, ◌%◌, ◌^◌, ◌<◌, Bool, true, false, cond, eqb, Some, None, Option, sym, refl, ap, ◌∙◌, subst, ⊎_elim, mod-eq_of_lt, arith}
use native.Mathlib.Nat.{ℕ_set}
use lib.Bits.{bit_and, bit_or}
use Rattle.std.proofs.lemmas.Bool.{cases_Bool, or_parts, eq-eqb, ne_eqb, eqb-true, eqb-false, not-true}
use Rattle.cubes.specs.Masks.{bit, share}
use Rattle.cubes.specs.Cubes.{HasMasks, of_masks_by, of_masks, vector, opposed, letter}
use Rattle.cubes.specs.declared.cube.Cube.{Cube}
use Rattle.cubes.proofs.Bits.{bit_of_and, bit_of_or, bit_zero, share_at, none_shared}

abbrev of : (z o : ℕ) → bit_and z o ≡ 0 → Cube
of z o h = record { zeros = z; ones = o; apart = h }

same_zeros : (z z' o : ℕ) → z ≡ z' → (h : bit_and z o ≡ 0) (h' : bit_and z' o ≡ 0) → of z o h ≡ of z' o h'
same_zeros z z' o p h = subst (λ (x : ℕ). (h' : bit_and x o ≡ 0) → of z o h ≡ of x o h') p (λ h'. ap (of z o) (ℕ_set _ _ h h'))

same_both : (z z' o o' : ℕ) → z ≡ z' → o ≡ o' → (h : bit_and z o ≡ 0) (h' : bit_and z' o' ≡ 0) → of z o h ≡ of z' o' h'
same_both z z' o o' p q h = subst (λ (x : ℕ). (h' : bit_and z' x ≡ 0) → of z o h ≡ of z' x h') q (λ h'. same_zeros z z' o p h h')

pub same_cube : (a b : Cube) → a.zeros ≡ b.zeros → a.ones ≡ b.ones → a ≡ b
same_cube a b p q = same_both a.zeros b.zeros a.ones b.ones p q a.apart b.apart

-- the cube with these masks is the vector
pub is_vector : (n v : ℕ) (c : Cube) → v < 2 ^ n → c.zeros ≡ 2 ^ n - 1 - v → c.ones ≡ v → c ≡ vector n v
is_vector n v c h z o = let m : v % 2 ^ n ≡ v = mod-eq_of_lt h in same_cube c (vector n v) (omega arith) (omega arith)

-- no input of a cube is both 0 and 1
pub not_both : (c : Cube) (i : ℕ) → bit c.zeros i ≡ 1 → bit c.ones i ≡ 1 → ⊥
not_both c i p q =
    let e = bit_of_and c.zeros c.ones i in
    let z : bit (bit_and c.zeros c.ones) i ≡ 0 = rw c.apart (bit_zero i) in
    omega arith

-- what is 0 in one of two cubes that are not opposed is 1 in neither
pub united_apart : (a b : Cube) → opposed a b ≡ false → bit_and (bit_or a.zeros b.zeros) (bit_or a.ones b.ones) ≡ 0
united_apart a b h =
    none_shared _ _ (⊎_elim (λ (t : share _ _ ≡ true). absurd (shared t)) (λ (f : share _ _ ≡ false). f) (cases_Bool (share (bit_or a.zeros b.zeros) (bit_or a.ones b.ones))))
  where
    shared : share (bit_or a.zeros b.zeros) (bit_or a.ones b.ones) ≡ true → ⊥
    shared t =
        let r = share_at _ _ t in
        let i : ℕ = r.0 in
        let parts = or_parts _ _ h in
        let p = bit_of_or a.zeros b.zeros i in
        let q = bit_of_or a.ones b.ones i in
        let x : bit (bit_and a.zeros b.ones) i ≡ 0 = rw (none_shared _ _ parts.0) (bit_zero i) in
        let y : bit (bit_and a.ones b.zeros) i ≡ 0 = rw (none_shared _ _ parts.1) (bit_zero i) in
        let u = bit_of_and a.zeros b.ones i in
        let w = bit_of_and a.ones b.zeros i in
        let s : bit (bit_and a.zeros a.ones) i ≡ 0 = rw a.apart (bit_zero i) in
        let s' = bit_of_and a.zeros a.ones i in
        let t' : bit (bit_and b.zeros b.ones) i ≡ 0 = rw b.apart (bit_zero i) in
        let t'' = bit_of_and b.zeros b.ones i in
        let r0 = r.1 in
        let r1 = r.2 in
        omega arith

-- the letter of an input by the bits of the masks
pub letter_zero : (c : Cube) (i : ℕ) → bit c.zeros i ≡ 1 → 48 ≡ letter c i
letter_zero c i h = rw (eq-eqb (bit c.zeros i) 1 h)

pub letter_one : (c : Cube) (i : ℕ) → (bit c.zeros i ≡ 1 → ⊥) → bit c.ones i ≡ 1 → 49 ≡ letter c i
letter_one c i n h = rw (ne_eqb (bit c.zeros i) 1 n, eq-eqb (bit c.ones i) 1 h)

pub letter_unknown : (c : Cube) (i : ℕ) → (bit c.zeros i ≡ 1 → ⊥) → (bit c.ones i ≡ 1 → ⊥) → 88 ≡ letter c i
letter_unknown c i n m = rw (ne_eqb (bit c.zeros i) 1 n, ne_eqb (bit c.ones i) 1 m)

-- it is one of three bytes, all below 128
pub letter_ascii : (c : Cube) (i : ℕ) → letter c i < 128
letter_ascii c i =
    elim (eqb (bit c.zeros i) 1) as (λ t. cond t 48 (cond (eqb (bit c.ones i) 1) 49 88) < 128)
    [ true ↦ omega arith | false ↦ elim (eqb (bit c.ones i) 1) as (λ t. cond t 49 88 < 128) [ true ↦ omega arith | false ↦ omega arith ] ]

-- masks that share no input make the cube that has them
by_apart : (z o : ℕ) (c : Cube) → c.zeros ≡ z → c.ones ≡ o → (b : Bool) (e : eqb (bit_and z o) 0 ≡ b) → of_masks_by z o b e ≡ Some c
by_apart z o c p q true e = ap Some (same_cube _ c (sym p) (sym q))
by_apart z o c p q false e = absurd (eqb-false (bit_and z o) 0 e (ap (λ x. bit_and x o) (sym p) ∙ ap (bit_and c.zeros) (sym q) ∙ c.apart))

pub of_masks_is : (z o : ℕ) (c : Cube) → c.zeros ≡ z → c.ones ≡ o → of_masks z o ≡ Some c
of_masks_is z o c p q = by_apart z o c p q (eqb (bit_and z o) 0) refl

by_shared : (z o : ℕ) → share z o ≡ true → (b : Bool) (e : eqb (bit_and z o) 0 ≡ b) → of_masks_by z o b e ≡ None
by_shared z o h true e = absurd (eqb-false (bit_and z o) 0 (not-true _ h) (eqb-true (bit_and z o) 0 e))
by_shared z o h false e = refl

-- masks that share one make none
pub of_masks_none : (z o : ℕ) → share z o ≡ true → of_masks z o ≡ None
of_masks_none z o h = by_shared z o h (eqb (bit_and z o) 0) refl

-- the cube that two masks make has them
pub masks_of : (z o : ℕ) (c : Cube) → of_masks z o ≡ Some c → HasMasks z o c
masks_of z o c e = step (eqb (bit_and z o) 0) refl e
  where
    step : (b : Bool) (h : eqb (bit_and z o) 0 ≡ b) → of_masks_by z o b h ≡ Some c → HasMasks z o c
    step true h f = (sym (ap zeros_of f), sym (ap ones_of f))
      where
        zeros_of : Option Cube → ℕ
        zeros_of None = c.zeros
        zeros_of (Some x) = x.zeros

        ones_of : Option Cube → ℕ
        ones_of None = c.ones
        ones_of (Some x) = x.ones
    step false h f = let z : ◌≡◌ {A = ℕ} 0 1 = cc in absurd (omega arith)
