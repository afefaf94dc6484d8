-- A cube cut to its first inputs, and the vector that has its ones and else zeros: the vector refines what was cut.
use Rattle.std.proofs.Common.{◌≡◌, ℕ, ◌-◌, ◌%◌, ◌^◌, ◌<◌, ◌≤◌, sym, ap, ◌∙◌, ⊎_elim, mod-lt, mod-eq_of_lt, arith, pow_pos}
use native.Mathlib.Nat.{zero-mod}
use Rattle.std.proofs.lemmas.Nat.{and_mod}
use Rattle.std.proofs.lemmas.Bool.{cases_lt}
use Rattle.cubes.specs.Masks.{bit}
use Rattle.cubes.specs.Cubes.{Refines, Agree, vector}
use Rattle.cubes.specs.declared.cube.Cube.{Cube}
use Rattle.cubes.proofs.Bits.{bit_above, bit_mod, bit_rest}
use Rattle.cubes.proofs.Alike.{not_both}

abbrev pub cut : ℕ → Cube → Cube
cut n c = record { zeros = c.zeros % 2 ^ n; ones = c.ones % 2 ^ n; apart = sym (and_mod c.zeros c.ones n) ∙ ap (λ k. k % 2 ^ n) c.apart ∙ zero-mod (2 ^ n) }

pub cut_agrees : (n : ℕ) (c : Cube) → Agree n c (cut n c)
cut_agrees n c i h = (sym (bit_mod n c.zeros i h), sym (bit_mod n c.ones i h))

-- the number of the vector that has the ones of a cube
abbrev pub filled : ℕ → Cube → ℕ
filled n c = c.ones % 2 ^ n

pub filled_below : (n : ℕ) (c : Cube) → filled n c < 2 ^ n
filled_below n c = mod-lt c.ones (pow_pos n)

pub filled_refines : (n : ℕ) (c : Cube) → Refines (vector n (filled n c)) (cut n c)
filled_refines n c i = (zeros, λ h. ap (λ x. bit x i) same ∙ h)
  where
    same : filled n c % 2 ^ n ≡ filled n c
    same = mod-eq_of_lt (filled_below n c)

    zeros : bit (c.zeros % 2 ^ n) i ≡ 1 → bit (2 ^ n - 1 - filled n c % 2 ^ n) i ≡ 1
    zeros h =
        rw same (⊎_elim
        (λ (l : i < n).
        let a = bit_mod n c.zeros i l in
        let b = bit_mod n c.ones i l in
        let r = bit_rest n (filled n c) i (filled_below n c) l in
        let z : bit c.zeros i ≡ 1 = omega arith in
        let o = not_both c i z in
        omega arith)
        (λ (l : n ≤ i). let e = bit_above (c.zeros % 2 ^ n) n i (mod-lt c.zeros (pow_pos n)) l in absurd (omega arith))
        (cases_lt i n))
