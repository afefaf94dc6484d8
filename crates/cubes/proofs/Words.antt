-- What words mark: of a conjunction, a disjunction, a complement; and the numbers of the vectors in input words.
use Rattle.std.proofs.Common.{◌≡◌, ℕ, zero, suc, ◌+◌, ◌-◌, ◌*◌, ◌/◌, ◌%◌, ◌^◌, ◌<◌, ◌≤◌, min, max, Bool, true, false, cond, not, ◌&&◌, ◌||◌, eqb, ltb, List, get_or, sym, refl, ap, ◌∙◌, subst, ⊎_elim, mod-eq_of_lt, one-mul, zero-mul, one-add, arith, pow_pos}
use native.Mathlib.Nat.{mod-one}
use lib.Bits.{bit_and, bit_or}
use Rattle.std.proofs.lemmas.Nat.{mod-pow-add}
use Rattle.std.proofs.lemmas.Bool.{cases_lt, eqb-true, lt-ltb, le-ltb, and_parts}
use Rattle.cubes.specs.Masks.{bit, has, mask_of}
use Rattle.cubes.specs.Blocks.{number_at, Marks}
use Rattle.cubes.proofs.Bits.{bit_two, bit_of_and, bit_of_or, bit_zero, bit_rest, bit_ones, bit_above, bit_low, bit_high, bit_mask_of, mask_of_agree, low_bit}

both_ones : (x y : ℕ) → x < 2 → y < 2 → eqb (min x y) 1 ≡ (eqb x 1 && eqb y 1)
both_ones zero zero h k = refl
both_ones zero (suc zero) h k = refl
both_ones (suc zero) zero h k = refl
both_ones (suc zero) (suc zero) h k = refl
both_ones zero (suc (suc y)) h k = absurd (omega arith)
both_ones (suc zero) (suc (suc y)) h k = absurd (omega arith)
both_ones (suc (suc x)) y h k = absurd (omega arith)

either_one : (x y : ℕ) → x < 2 → y < 2 → eqb (max x y) 1 ≡ (eqb x 1 || eqb y 1)
either_one zero zero h k = refl
either_one zero (suc zero) h k = refl
either_one (suc zero) zero h k = refl
either_one (suc zero) (suc zero) h k = refl
either_one zero (suc (suc y)) h k = absurd (omega arith)
either_one (suc zero) (suc (suc y)) h k = absurd (omega arith)
either_one (suc (suc x)) y h k = absurd (omega arith)

other_one : (x y : ℕ) → x + y ≡ 1 → eqb x 1 ≡ not (eqb y 1)
other_one zero zero h = absurd (omega arith)
other_one zero (suc zero) h = refl
other_one (suc zero) zero h = refl
other_one zero (suc (suc y)) h = absurd (omega arith)
other_one (suc zero) (suc y) h = absurd (omega arith)
other_one (suc (suc x)) y h = absurd (omega arith)

pub has_and : (a b k : ℕ) → has (bit_and a b) k ≡ (has a k && has b k)
has_and a b k = ap (λ x. eqb x 1) (bit_of_and a b k) ∙ both_ones (bit a k) (bit b k) (bit_two a k) (bit_two b k)

pub has_or : (a b k : ℕ) → has (bit_or a b) k ≡ (has a k || has b k)
has_or a b k = ap (λ x. eqb x 1) (bit_of_or a b k) ∙ either_one (bit a k) (bit b k) (bit_two a k) (bit_two b k)

-- the complement of a word
pub has_rest : (n a k : ℕ) → a < 2 ^ n → k < n → has (2 ^ n - 1 - a) k ≡ not (has a k)
has_rest n a k h l = other_one (bit (2 ^ n - 1 - a) k) (bit a k) (bit_rest n a k h l)

pub has_zero : (k : ℕ) → has 0 k ≡ false
has_zero k = ap (λ x. eqb x 1) (bit_zero k)

pub has_ones : (n k : ℕ) → k < n → has (2 ^ n - 1) k ≡ true
has_ones n k h = ap (λ x. eqb x 1) (bit_ones n k h)

pub bit_from_has : (m i : ℕ) → has m i ≡ true → bit m i ≡ 1
bit_from_has m i h = eqb-true (bit m i) 1 h

pub has_from_bit : (m i : ℕ) → bit m i ≡ 1 → has m i ≡ true
has_from_bit m i h = ap (λ x. eqb x 1) h

-- `m >> i & 1 == 1` asks for place i
pub has_low : (m i : ℕ) → eqb (bit_and (m / 2 ^ i) 1) 1 ≡ has m i
has_low m i = ap (λ x. eqb x 1) (low_bit m i)

by_one : (b : Bool) → eqb (cond b 1 0) 1 ≡ b
by_one true = refl
by_one false = refl

pub has_mask_of : (p : ℕ → Bool) (n i : ℕ) → i < n → has (mask_of p n) i ≡ p i
has_mask_of p n i l = ap (λ x. eqb x 1) (bit_mask_of p n i l) ∙ by_one (p i)

-- a number is the mask of its bits
one_if : (x m : ℕ) → x < 2 → cond (eqb x 1) m 0 ≡ x * m
one_if zero m h = sym (zero-mul m)
one_if (suc zero) m h = sym (one-mul m)
one_if (suc (suc x)) m h = absurd (omega arith)

mask_of_bits : (v n : ℕ) → mask_of (has v) n ≡ v % 2 ^ n
mask_of_bits v zero = sym (mod-one v)
mask_of_bits v (suc n) =
    let e : v % 2 ^ (1 + n) ≡ (v / 2 ^ n % 2) * 2 ^ n + v % 2 ^ n = mod-pow-add v 1 n in
    let f : v % 2 ^ suc n ≡ v % 2 ^ (1 + n) = ap (λ x. v % 2 ^ x) (sym (one-add n)) in
    let i = mask_of_bits v n in
    let o = one_if (bit v n) (2 ^ n) (bit_two v n) in
    omega arith

-- words that hold, input by input, what a number has: the number of their vector
pub number_is : (n : ℕ) (words : List ℕ) (k v : ℕ) → v < 2 ^ n → ((i : ℕ) → i < n → has (get_or words i 0) k ≡ has v i) → number_at n words k ≡ v
number_is n words k v l h = mask_of_agree _ (has v) n h ∙ mask_of_bits v n ∙ mod-eq_of_lt l

-- the vector of input words has at each input what the word of the input says
pub has_number : (n : ℕ) (words : List ℕ) (k i : ℕ) → i < n → has (number_at n words k) i ≡ has (get_or words i 0) k
has_number n words k i l = has_mask_of (λ j. has (get_or words j 0) k) n i l

-- the words of the six lowest inputs, by computing
abbrev all_below : (ℕ → Bool) → ℕ → Bool
all_below p zero = true
all_below p (suc n) = all_below p n && p n

each_below : (p : ℕ → Bool) (n k : ℕ) → all_below p n ≡ true → k < n → p k ≡ true
each_below p zero k e h = absurd (omega arith)
each_below p (suc n) k e h =
    let b = and_parts (all_below p n) (p n) e in
    ⊎_elim
    (λ (l : k < n). each_below p n k b.0 l)
    (λ (l : n ≤ k). let s : n ≡ k = omega arith in subst (λ (j : ℕ). p j ≡ true) s b.1)
    (cases_lt k n)

pub low_pattern : (w i b : ℕ) → i < 6 → all_below (λ k. eqb (bit w k) (bit k i)) 64 ≡ true → Marks (λ k. has (64 * b + k) i) w
low_pattern w i b l e k h =
    let c : b * 2 ^ 6 + k ≡ 64 * b + k = omega arith in
    ap (λ x. eqb x 1) (eqb-true (bit w k) (bit k i) (each_below (λ j. eqb (bit w j) (bit j i)) 64 k e h) ∙ sym (bit_low 6 b k i l) ∙ ap (λ x. bit x i) c)

-- the other inputs are the same in all 64 vectors
pub high_pattern : (b k i : ℕ) → k < 64 → 6 ≤ i → has b (i - 6) ≡ has (64 * b + k) i
high_pattern b k i h l =
    let c : b * 2 ^ 6 + k ≡ 64 * b + k = omega arith in
    ap (λ x. eqb x 1) (sym (bit_high 6 b k i h l) ∙ ap (λ x. bit x i) c)

-- the mask of the places below n
pub has_low_ones : (n k : ℕ) → has (2 ^ n - 1) k ≡ ltb k n
has_low_ones n k =
    ⊎_elim
    (λ (l : k < n). has_ones n k l ∙ sym (lt-ltb k n l))
    (λ (l : n ≤ k). let p = pow_pos n in ap (λ x. eqb x 1) (bit_above (2 ^ n - 1) n k (omega arith) l) ∙ sym (le-ltb k n l))
    (cases_lt k n)
