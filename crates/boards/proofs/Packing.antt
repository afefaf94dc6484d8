-- Bytes and what they stand for: fields of two bytes, pins with zeros after them, and the four leading bytes of a record.
use Rattle.std.proofs.Common.{◌≡◌, ℕ, zero, suc, ◌-◌, ◌*◌, ◌<◌, ◌≤◌, true, eqb, ltb, List, [], ◌∷◌, ◌++◌, length, get_or, take, drop, replicate, Some, sym, refl, ap, ◌∙◌, arith}
use Rattle.std.proofs.lemmas.List.{take_at, drop_at}
use Rattle.std.proofs.lemmas.Bool.{and_parts, and_from, eqb-true, ltb-true, lt-ltb}
use Rattle.boards.specs.declared.parts.Kind.{Kind}
use Rattle.boards.specs.declared.parts.Kind.TheVariants.{And, Or, Nand, Nor, Xor, Xnor, Not, Buf}
use Rattle.boards.specs.Files.{low, high, pin_bytes, code}
use Rattle.boards.specs.Records.{word, words, zeros, all_below, kind_of}

-- every byte of a list is one
abbrev pub Bytes : List ℕ → Type 0
Bytes bs = (i : ℕ) → get_or bs i 0 < 256

pub low_word : (lo hi : ℕ) → lo < 256 → low (word lo hi) ≡ lo
low_word lo hi h = omega arith

pub high_word : (lo hi : ℕ) → lo < 256 → high (word lo hi) ≡ hi
high_word lo hi h = omega arith

pub word_low : (n : ℕ) → word (low n) (high n) ≡ n
word_low n = omega arith

pub zeros_all : (bs : List ℕ) → zeros bs ≡ true → bs ≡ replicate (length bs) 0
zeros_all [] h = refl
zeros_all (b ∷ bs) h =
    let p = and_parts (eqb b 0) (zeros bs) h in
    ap (λ x. x ∷ bs) (eqb-true b 0 p.0) ∙ ap (λ ys. 0 ∷ ys) (zeros_all bs p.1)

pub all_zeros : (n : ℕ) → zeros (replicate n 0) ≡ true
all_zeros zero = refl
all_zeros (suc n) = all_zeros n

-- a record by its first four bytes and the rest
pub four_bytes : (r : List ℕ) → 4 ≤ length r → r ≡ get_or r 0 0 ∷ (get_or r 1 0 ∷ (get_or r 2 0 ∷ (get_or r 3 0 ∷ drop 4 r)))
four_bytes [] h = absurd (omega arith)
four_bytes (a ∷ []) h = absurd (omega arith)
four_bytes (a ∷ (b ∷ [])) h = absurd (omega arith)
four_bytes (a ∷ (b ∷ (c ∷ []))) h = absurd (omega arith)
four_bytes (a ∷ (b ∷ (c ∷ (d ∷ rest)))) h = refl

-- n pins are the first n fields, where zeros follow them
pub padded : (n m : ℕ) (bs : List ℕ) → Bytes bs → length bs ≡ 2 * m → n ≤ m → zeros (drop (2 * n) bs) ≡ true →
    (length (take n (words bs)) ≡ n) × (bs ≡ pin_bytes (take n (words bs)) ++ replicate (2 * m - 2 * n) 0)
padded zero m bs b e l z =
    let k : 2 * m - 2 * 0 ≡ length bs = omega arith in
    (refl, zeros_all bs z ∙ ap (λ j. replicate j 0) (sym k))
padded (suc n) m [] b e l z = absurd (omega arith)
padded (suc n) m (lo ∷ []) b e l z = absurd (omega arith)
padded (suc n) m (lo ∷ (hi ∷ bs)) b e l z =
    let t : 2 * suc n ≡ suc (suc (2 * n)) = omega arith in
    let z' : zeros (drop (2 * n) bs) ≡ true = ap (λ j. zeros (drop j (lo ∷ (hi ∷ bs)))) (sym t) ∙ z in
    let small : lo < 256 = b 0 in
    let ih = padded n (m - 1) bs (λ i. b (suc (suc i))) (omega arith) (omega arith) z' in
    let k : 2 * (m - 1) - 2 * n ≡ 2 * m - 2 * suc n = omega arith in (
      ap suc ih.0,
      ap (λ ys. lo ∷ (hi ∷ ys)) (ih.1 ∙ ap (λ j. pin_bytes (take n (words bs)) ++ replicate j 0) k)
          ∙ ap (λ x. x ∷ (hi ∷ (pin_bytes (take n (words bs)) ++ replicate (2 * m - 2 * suc n) 0))) (sym (low_word lo hi small))
          ∙ ap (λ x. low (word lo hi) ∷ (x ∷ (pin_bytes (take n (words bs)) ++ replicate (2 * m - 2 * suc n) 0))) (sym (high_word lo hi small)),
    )

pub length_pin_bytes : (ps : List ℕ) → length (pin_bytes ps) ≡ 2 * length ps
length_pin_bytes [] = refl
length_pin_bytes (p ∷ ps) = let e = length_pin_bytes ps in omega arith

words_pins : (ps zs : List ℕ) → words (pin_bytes ps ++ zs) ≡ ps ++ words zs
words_pins [] zs = refl
words_pins (p ∷ ps) zs = ap (λ w. w ∷ words (pin_bytes ps ++ zs)) (word_low p) ∙ ap (λ ws. p ∷ ws) (words_pins ps zs)

-- the pins that their bytes give back, whatever follows
pub pins_back : (ps zs : List ℕ) → take (length ps) (words (pin_bytes ps ++ zs)) ≡ ps
pins_back ps zs = ap (take (length ps)) (words_pins ps zs) ∙ take_at ps (words zs) (length ps) refl

pub zeros_after : (ps : List ℕ) (k : ℕ) → zeros (drop (2 * length ps) (pin_bytes ps ++ replicate k 0)) ≡ true
zeros_after ps k = ap zeros (drop_at (pin_bytes ps) (replicate k 0) (2 * length ps) (length_pin_bytes ps)) ∙ all_zeros k

pub below_each : (n : ℕ) (ls : List ℕ) → all_below n ls ≡ true → (i : ℕ) → i < length ls → get_or ls i 0 < n
below_each n [] h i l = absurd (omega arith)
below_each n (x ∷ ls) h zero l = ltb-true x n (and_parts (ltb x n) (all_below n ls) h).0
below_each n (x ∷ ls) h (suc i) l = below_each n ls (and_parts (ltb x n) (all_below n ls) h).1 i (omega arith)

pub each_below : (n : ℕ) (ls : List ℕ) → ((i : ℕ) → i < length ls → get_or ls i 0 < n) → all_below n ls ≡ true
each_below n [] h = refl
each_below n (x ∷ ls) h = and_from (ltb x n) (all_below n ls) (lt-ltb x n (h 0 (omega arith))) (each_below n ls (λ i l. h (suc i) (omega arith)))

-- the byte of a kind, and the kind of a byte
pub kind_back : (k : Kind) → kind_of (code k) ≡ Some k
kind_back And = refl
kind_back Or = refl
kind_back Nand = refl
kind_back Nor = refl
kind_back Xor = refl
kind_back Xnor = refl
kind_back Not = refl
kind_back Buf = refl
