-- The bits of masks: of a conjunction, a disjunction, a difference, a mask made by a test, a number in blocks, the lowest
-- bit; what two masks share; and how many vectors there are.
use Rattle.std.proofs.Common.{◌≡◌, ℕ, zero, suc, ◌+◌, ◌-◌, ◌*◌, ◌/◌, ◌%◌, ◌^◌, ◌<◌, ◌≤◌, min, max, Bool, true, false, cond, sym, refl, ap, ◌∙◌, ⊎_elim, add-zero, mul_assoc, add_comm, one-mul, pow-suc, div-one, one-add, arith, pow_pos, pow_mono, pow-add, shr-shr}
use native.Mathlib.Nat.{zero-div, div-eq_of_lt, add-mul-div_right, add-div_right}
use lib.Bits.{bit_and, bit_or, bit_xor, differ, and_le_l, and_mask, and_step, or_step, xor_step, and_shr, or_shr, xor_shr, or_shifted_r}
use lib.Count.{count_trailing_zeros, under}
use Rattle.std.proofs.lemmas.Bool.{cases_eq, cases_lt, ne_eqb, eqb-false, eq-eqb, not-true, not_from_false, not_from_true, both_ways}
use Rattle.std.proofs.lemmas.Nat.{one_shl, shr_split, shr_high}
use Rattle.cubes.specs.Masks.{bit, mask_of, share}

pub bit_of_and : (a b i : ℕ) → bit (bit_and a b) i ≡ min (bit a i) (bit b i)
bit_of_and a b i =
    let e : bit_and a b / 2 ^ i ≡ bit_and (a / 2 ^ i) (b / 2 ^ i) = and_shr a b i in
    let s = and_step (a / 2 ^ i) (b / 2 ^ i) in
    omega arith

pub bit_of_or : (a b i : ℕ) → bit (bit_or a b) i ≡ max (bit a i) (bit b i)
bit_of_or a b i =
    let e : bit_or a b / 2 ^ i ≡ bit_or (a / 2 ^ i) (b / 2 ^ i) = or_shr a b i in
    let s = or_step (a / 2 ^ i) (b / 2 ^ i) in
    omega arith

-- a bit is 0 or 1
pub bit_two : (m i : ℕ) → bit m i < 2
bit_two m i = omega arith

differ_two : (x y : ℕ) → x < 2 → y < 2 → differ x y < 2
differ_two zero y h k = k
differ_two (suc zero) zero h k = h
differ_two (suc zero) (suc zero) h k = omega arith
differ_two (suc zero) (suc (suc y)) h k = absurd (omega arith)
differ_two (suc (suc x)) y h k = absurd (omega arith)

pub bit_of_xor : (a b i : ℕ) → bit (bit_xor a b) i ≡ differ (bit a i) (bit b i)
bit_of_xor a b i =
    let e : bit_xor a b / 2 ^ i ≡ bit_xor (a / 2 ^ i) (b / 2 ^ i) = xor_shr a b i in
    let s = xor_step (a / 2 ^ i) (b / 2 ^ i) in
    let l : differ (bit a i) (bit b i) < 2 = differ_two (bit a i) (bit b i) (bit_two a i) (bit_two b i) in
    omega arith

pub bit_zero : (i : ℕ) → bit 0 i ≡ 0
bit_zero i = rw zero-div

-- one bit further up
pub bit_half : (n k : ℕ) → bit (n / 2) k ≡ bit n (suc k)
bit_half n k = ap (λ x. x % 2) (shr-shr n 1 k ∙ ap (λ e. n / 2 ^ e) (one-add k))

-- a number that is not 0 has a bit
pub some_bit : (w n : ℕ) → 0 < n → n < 2 ^ w → (k : ℕ) × (k < w) × (bit n k ≡ 1)
some_bit zero n p h = absurd (omega arith)
some_bit (suc w) n p h =
    let e : 2 ^ suc w ≡ 2 ^ w * 2 = pow-suc 2 w in
    ⊎_elim
    (λ (odd : n % 2 ≡ 1). (0, omega arith, rw div-one odd))
    (λ (even : n % 2 ≡ 1 → ⊥). let r = some_bit w (n / 2) (omega arith) (omega arith) in (suc r.0, omega arith, sym (bit_half n r.0) ∙ r.2))
    (cases_eq (n % 2) 1)

-- a mask below 2 ^ k has no bit at k or above
pub bit_above : (n k i : ℕ) → n < 2 ^ k → k ≤ i → bit n i ≡ 0
bit_above n k i h l =
    let p : 2 ^ k ≤ 2 ^ i = pow_mono l in
    let g : n < 2 ^ i = omega arith in
    rw (div-eq_of_lt g)

-- 2 ^ n more leaves the bits below n
pub bit_add_below : (m n i : ℕ) → i < n → bit (m + 2 ^ n) i ≡ bit m i
bit_add_below m n i h =
    let k : ℕ = n - suc i in
    let s : suc k + i ≡ n = omega arith in
    let e : 2 ^ (suc k + i) ≡ 2 ^ suc k * 2 ^ i = pow-add 2 (suc k) i in
    let f : 2 ^ suc k ≡ 2 ^ k * 2 = pow-suc 2 k in
    let q : (m + 2 ^ suc k * 2 ^ i) / 2 ^ i ≡ m / 2 ^ i + 2 ^ suc k = add-mul-div_right m (2 ^ suc k) (pow_pos i) in
    let r : (m + 2 ^ n) / 2 ^ i ≡ m / 2 ^ i + 2 ^ suc k = ap (λ x. (m + x) / 2 ^ i) (ap (λ t. 2 ^ t) (sym s) ∙ e) ∙ q in
    omega arith

-- and sets bit n
pub bit_add_at : (m n : ℕ) → m < 2 ^ n → bit (m + 2 ^ n) n ≡ 1
bit_add_at m n h =
    let q = add-div_right m (pow_pos n) in
    let z : m / 2 ^ n ≡ 0 = div-eq_of_lt h in
    omega arith

-- 2 ^ n more is the or with 2 ^ n
pub or_add : (m n : ℕ) → m < 2 ^ n → bit_or m (2 ^ n) ≡ m + 2 ^ n
or_add m n h = let e : bit_or m (2 ^ n) ≡ 2 ^ n + m = simp one-mul at (or_shifted_r 1 n m h) in omega arith

pub mask_of_lt : (p : ℕ → Bool) (n : ℕ) → mask_of p n < 2 ^ n
mask_of_lt p zero = omega arith
mask_of_lt p (suc n) =
    let e : 2 ^ suc n ≡ 2 ^ n * 2 = pow-suc 2 n in
    let ih = mask_of_lt p n in
    elim (p n) as (λ b. mask_of p n + cond b (2 ^ n) 0 < 2 ^ suc n) [ true ↦ omega arith | false ↦ omega arith ]

pub bit_mask_of : (p : ℕ → Bool) (n i : ℕ) → i < n → bit (mask_of p n) i ≡ cond (p i) 1 0
bit_mask_of p zero i h = absurd (omega arith)
bit_mask_of p (suc n) i h =
    ⊎_elim
    (λ (l : i < n). let ih = bit_mask_of p n i l in
    elim (p n) as (λ b. bit (mask_of p n + cond b (2 ^ n) 0) i ≡ cond (p i) 1 0) [ true ↦ bit_add_below (mask_of p n) n i l ∙ ih | false ↦ rw add-zero ih ])
    (λ (l : n ≤ i). let s : i ≡ n = omega arith in
    rw s (elim (p n) as (λ b. bit (mask_of p n + cond b (2 ^ n) 0) n ≡ cond b 1 0) [ true ↦ bit_add_at (mask_of p n) n (mask_of_lt p n) | false ↦ rw add-zero (bit_above (mask_of p n) n n (mask_of_lt p n) (omega arith)) ]))
    (cases_lt i n)

-- the rest of the places below n
pub bit_rest : (n v i : ℕ) → v < 2 ^ n → i < n → bit (2 ^ n - 1 - v) i + bit v i ≡ 1
bit_rest zero v i h l = absurd (omega arith)
bit_rest (suc n) v zero h l =
    let e : 2 ^ suc n ≡ 2 ^ n * 2 = pow-suc 2 n in
    rw (div-one (2 ^ suc n - 1 - v), div-one v) (omega arith)
bit_rest (suc n) v (suc i) h l =
    let e : 2 ^ suc n ≡ 2 ^ n * 2 = pow-suc 2 n in
    let q : (2 ^ suc n - 1 - v) / 2 ≡ 2 ^ n - 1 - v / 2 = omega arith in
    let ih = bit_rest n (v / 2) i (omega arith) (omega arith) in
    let a : bit (2 ^ n - 1 - v / 2) i ≡ bit (2 ^ suc n - 1 - v) (suc i) = ap (λ m. bit m i) (sym q) ∙ bit_half (2 ^ suc n - 1 - v) i in
    let b = bit_half v i in
    omega arith

-- the bits of a mask that is made from a test
pub passes : (p : ℕ → Bool) (n o : ℕ) → bit (mask_of p n) o ≡ 1 → (o < n) × (p o ≡ true)
passes p n o h =
    ⊎_elim
    (λ (l : o < n). (l, by_one (p o) (sym (bit_mask_of p n o l) ∙ h)))
    (λ (l : n ≤ o). let z = bit_above (mask_of p n) n o (mask_of_lt p n) l in absurd (omega arith))
    (cases_lt o n)
  where
    by_one : (b : Bool) → ◌≡◌ {A = ℕ} (cond b 1 0) 1 → b ≡ true
    by_one true e = refl
    by_one false e = absurd (omega arith)

pub sets_bit : (p : ℕ → Bool) (n o : ℕ) → o < n → p o ≡ true → bit (mask_of p n) o ≡ 1
sets_bit p n o l e = bit_mask_of p n o l ∙ ap (λ b. cond b 1 0) e

pub mask_of_agree : (p q : ℕ → Bool) (n : ℕ) → ((o : ℕ) → o < n → p o ≡ q o) → mask_of p n ≡ mask_of q n
mask_of_agree p q zero h = refl
mask_of_agree p q (suc n) h =
    ap (λ m. m + cond (p n) (2 ^ n) 0) (mask_of_agree p q n (λ o l. h o (omega arith))) ∙ ap (λ b. mask_of q n + cond b (2 ^ n) 0) (h n (omega arith))

-- every number is below its own power of two
below_power : (n : ℕ) → n < 2 ^ n
below_power zero = omega arith
below_power (suc n) = let e : 2 ^ suc n ≡ 2 ^ n * 2 = pow-suc 2 n in let ih = below_power n in omega arith

-- masks that share something have a place in common
pub share_at : (a b : ℕ) → share a b ≡ true → (o : ℕ) × (bit a o ≡ 1) × (bit b o ≡ 1)
share_at a b h =
    let ne : bit_and a b ≡ 0 → ⊥ = eqb-false (bit_and a b) 0 (not-true _ h) in
    let r = some_bit (bit_and a b) (bit_and a b) (omega arith) (below_power (bit_and a b)) in
    let e = bit_of_and a b r.0 in
    let f = r.2 in
    (r.0, omega arith, omega arith)

-- and a place in common makes them share something
pub share_from : (a b o : ℕ) → bit a o ≡ 1 → bit b o ≡ 1 → share a b ≡ true
share_from a b o p q =
    not_from_false _ (ne_eqb (bit_and a b) 0 (λ z.
    let e = bit_of_and a b o in
    let y : bit (bit_and a b) o ≡ 0 = rw z (bit_zero o) in
    omega arith))

pub share_none : (a b : ℕ) → bit_and a b ≡ 0 → share a b ≡ false
share_none a b e = not_from_true _ (eq-eqb (bit_and a b) 0 e)

-- masks that share nothing have no place in common
pub none_shared : (a b : ℕ) → share a b ≡ false → bit_and a b ≡ 0
none_shared a b h =
    ⊎_elim (λ (e : bit_and a b ≡ 0). e) (λ (n : bit_and a b ≡ 0 → ⊥). absurd (both_ways _ h (not_from_false _ (ne_eqb (bit_and a b) 0 n)))) (cases_eq (bit_and a b) 0)

-- b lies within a exactly when their conjunction is b
pub within_bits : (a b : ℕ) → bit_and b a ≡ b → (i : ℕ) → bit b i ≡ 1 → bit a i ≡ 1
within_bits a b e i h = let s = bit_of_and b a i in let t : bit (bit_and b a) i ≡ bit b i = ap (λ m. bit m i) e in omega arith

same_bits : (w a b : ℕ) → a < 2 ^ w → b < 2 ^ w → ((i : ℕ) → bit a i ≡ bit b i) → a ≡ b
same_bits zero a b h k e = omega arith
same_bits (suc w) a b h k e =
    let p : 2 ^ suc w ≡ 2 ^ w * 2 = pow-suc 2 w in
    let halves = same_bits w (a / 2) (b / 2) (omega arith) (omega arith) (λ i. bit_half a i ∙ e (suc i) ∙ sym (bit_half b i)) in
    let low : a % 2 ≡ b % 2 = simp div-one at (e 0) in
    omega arith

pub bits_within : (w a b : ℕ) → b < 2 ^ w → ((i : ℕ) → bit b i ≡ 1 → bit a i ≡ 1) → bit_and b a ≡ b
bits_within w a b h k =
    same_bits w (bit_and b a) b (let l = and_le_l b a in omega arith) h
    (λ i. let e = bit_of_and b a i in ⊎_elim (λ (p : bit b i ≡ 1). let q = k i p in omega arith) (λ (p : bit b i ≡ 1 → ⊥). omega arith) (cases_eq (bit b i) 1))

-- `m >> i & 1` is bit i
pub low_bit : (m i : ℕ) → bit_and (m / 2 ^ i) 1 ≡ bit m i
low_bit m i = and_mask (m / 2 ^ i) 1

-- shifting 1 up by the number of inputs gives the number of vectors, which are few
pub vectors_counted : (n m : ℕ) → n ≡ m → m ≤ 16 → ((1 * 2 ^ n) % 2 ^ 32 ≡ 2 ^ m) × (2 ^ m ≤ 2 ^ 16)
vectors_counted n m e h = rw e (one_shl m 32 (omega arith), pow_mono h)

-- the low bits of b * 2 ^ s + k are those of k, the others those of b
pub bit_low : (s b k i : ℕ) → i < s → bit (b * 2 ^ s + k) i ≡ bit k i
bit_low s b k i h =
    let n : ℕ = s - suc i in
    let t : suc n + i ≡ s = omega arith in
    let e : 2 ^ (suc n + i) ≡ 2 ^ suc n * 2 ^ i = pow-add 2 (suc n) i in
    let f : 2 ^ suc n ≡ 2 ^ n * 2 = pow-suc 2 n in
    let g : b * 2 ^ s ≡ (b * 2 ^ suc n) * 2 ^ i = ap (λ x. b * x) (ap (λ x. 2 ^ x) (sym t) ∙ e) ∙ sym (mul_assoc b (2 ^ suc n) (2 ^ i)) in
    let q : (k + (b * 2 ^ suc n) * 2 ^ i) / 2 ^ i ≡ k / 2 ^ i + b * 2 ^ suc n = add-mul-div_right k (b * 2 ^ suc n) (pow_pos i) in
    let w : b * 2 ^ suc n ≡ (b * 2 ^ n) * 2 = ap (λ x. b * x) f ∙ sym (mul_assoc b (2 ^ n) 2) in
    let r : (b * 2 ^ s + k) / 2 ^ i ≡ k / 2 ^ i + b * 2 ^ suc n = ap (λ x. x / 2 ^ i) (add_comm (b * 2 ^ s) k ∙ ap (λ x. k + x) g) ∙ q in
    omega arith

pub bit_high : (s b k i : ℕ) → k < 2 ^ s → s ≤ i → bit (b * 2 ^ s + k) i ≡ bit b (i - s)
bit_high s b k i h l =
    let t : s + (i - s) ≡ i = omega arith in
    ap (λ x. x % 2) (ap (λ x. (b * 2 ^ s + k) / 2 ^ x) (sym t) ∙ sym (shr-shr (b * 2 ^ s + k) s (i - s)) ∙ ap (λ x. x / 2 ^ (i - s)) (shr_high b s k h))

-- what is left of a number below 2 ^ n has its bits below n
pub bit_mod : (n v i : ℕ) → i < n → bit (v % 2 ^ n) i ≡ bit v i
bit_mod n v i h = sym (bit_low n (v / 2 ^ n) (v % 2 ^ n) i h) ∙ ap (λ x. bit x i) (shr_split v n)

-- a number below 2 ^ k with the bit b put on top of it, at place k
bit_itself : (b : ℕ) → b < 2 → bit b 0 ≡ b
bit_itself zero h = refl
bit_itself (suc zero) h = refl
bit_itself (suc (suc b)) h = absurd (omega arith)

pub bit_at_top : (w b k : ℕ) → w < 2 ^ k → b < 2 → bit (w + b * 2 ^ k) k ≡ b
bit_at_top w b k h l =
    let e : w + b * 2 ^ k ≡ b * 2 ^ k + w = omega arith in
    let z : k - k ≡ 0 = omega arith in
    ap (λ x. bit x k) e ∙ bit_high k b w k h (omega arith) ∙ ap (bit b) z ∙ bit_itself b l

pub bit_below_top : (w b k q : ℕ) → q < k → bit (w + b * 2 ^ k) q ≡ bit w q
bit_below_top w b k q h =
    let e : w + b * 2 ^ k ≡ b * 2 ^ k + w = omega arith in
    ap (λ x. bit x q) e ∙ bit_low k b w q h

pub topped_below : (w b k : ℕ) → w < 2 ^ k → b < 2 → w + b * 2 ^ k < 2 ^ (k + 1)
topped_below w zero k h l = let e : 2 ^ (k + 1) ≡ 2 ^ k * 2 ^ 1 = pow-add 2 k 1 in omega arith
topped_below w (suc zero) k h l = let e : 2 ^ (k + 1) ≡ 2 ^ k * 2 ^ 1 = pow-add 2 k 1 in omega arith
topped_below w (suc (suc b)) k h l = absurd (omega arith)

-- the mask of all places below n
pub bit_ones : (n i : ℕ) → i < n → bit (2 ^ n - 1) i ≡ 1
bit_ones n i h =
    let e = bit_rest n 0 i (pow_pos n) h in
    let z = bit_zero i in
    let f : 2 ^ n - 1 - 0 ≡ 2 ^ n - 1 = omega arith in
    ap (λ x. bit x i) (sym f) ∙ omega arith

-- t is the lowest bit of n, where one of the first w is set
abbrev pub Lowest : ℕ → ℕ → ℕ → Type 0
Lowest w n t = (t < w → bit n t ≡ 1) × ((i : ℕ) → i < t → bit n i ≡ 0)

lowest_under : (w n d t : ℕ) → n % 2 ≡ d → Lowest w (n / 2) t → Lowest (suc w) n (under d t)
lowest_under w n zero t e f = ((λ l. sym (bit_half n t) ∙ f.0 (omega arith)), below)
  where
    below : (i : ℕ) → i < suc t → bit n i ≡ 0
    below zero l = rw div-one e
    below (suc i) l = sym (bit_half n i) ∙ f.1 i (omega arith)
lowest_under w n (suc d) t e f = ((λ l. rw div-one (omega arith)), (λ i l. absurd (omega arith)))

pub trailing_lowest : (w n : ℕ) → Lowest w n (count_trailing_zeros w n)
unfolding count_trailing_zeros
trailing_lowest zero n = ((λ l. absurd (omega arith)), (λ i l. absurd (omega arith)))
trailing_lowest (suc w) n = lowest_under w n (n % 2) (count_trailing_zeros w (n / 2)) refl (trailing_lowest w (n / 2))

-- a word that is not 0 has its lowest bit inside
pub trailing_inside : (w n : ℕ) → 0 < n → n < 2 ^ w → count_trailing_zeros w n < w
trailing_inside w n p h =
    let r = some_bit w n p h in
    let f = trailing_lowest w n in
    ⊎_elim
    (λ (l : count_trailing_zeros w n < w). l)
    (λ (l : w ≤ count_trailing_zeros w n). let z = f.1 r.0 (omega (arith, r.1)) in let o = r.2 in absurd (omega arith))
    (cases_lt (count_trailing_zeros w n) w)
