-- Laws of `placed`, for proofs of calls that write a line piece by piece, here and in the crates above.
use Rattle.std.proofs.Common.{◌≡◌, ℕ, suc, ◌+◌, ◌-◌, ◌/◌, ◌^◌, ◌<◌, ◌≤◌, min, List, [], ◌∷◌, ◌++◌, length, take, drop, set, decimal, sym, refl, ap, ◌∙◌, inl, inr, append_assoc, add-zero, add-suc, suc-add, zero-add, add-one, arith, lit<, length-set}
use lib.Seq.{sets, length-sets, sets-eq}
use Rattle.std.proofs.lemmas.List.{set_past, length_push}
use Rattle.std.proofs.lemmas.Fmt.{decimal_step, length-decimal-le}
use Rattle.std.proofs.lemmas.Bool.{cases_lt}
use Rattle.texts.specs.Texts.{placed}

-- what is written one after the other is written at once
pub placed_append : (t : List ℕ) (at : ℕ) (xs ys : List ℕ) → placed (placed t at xs) (at + length xs) ys ≡ placed t at (xs ++ ys)
placed_append t at [] ys = rw add-zero
placed_append t at (x ∷ xs) ys = rw (add-suc, ← suc-add, placed_append (set t at x) (suc at) xs ys)

-- it is the library's run of stores, whose laws the next two are
placed_sets : (t : List ℕ) (at : ℕ) (bs : List ℕ) → placed t at bs ≡ sets t at bs
placed_sets t at [] = refl
placed_sets t at (b ∷ bs) = placed_sets (set t at b) (suc at) bs

-- writing keeps the length of the text
pub placed_length : (t : List ℕ) (at : ℕ) (bs : List ℕ) → length (placed t at bs) ≡ length t
placed_length t at bs = ap length (placed_sets t at bs) ∙ length-sets t at bs

-- what fits stands between what was before it and what was after it
pub placed_fits : (t : List ℕ) (at : ℕ) (bs : List ℕ) → at + length bs ≤ length t → placed t at bs ≡ take at t ++ (bs ++ drop (at + length bs) t)
placed_fits t at bs h = placed_sets t at bs ∙ sets-eq bs t at h ∙ append_assoc (take at t) bs (drop (at + length bs) t)

-- a line that fits at the start leaves the rest of the text
pub placed_start : (t bs : List ℕ) → length bs ≤ length t → placed t 0 bs ≡ bs ++ drop (length bs) t
placed_start t bs h = placed_fits t 0 bs (omega arith) ∙ rw zero-add

-- past the end nothing is written
pub placed_past : (t : List ℕ) (at : ℕ) (bs : List ℕ) → length t ≤ at → placed t at bs ≡ t
placed_past t at [] h = refl
placed_past t at (b ∷ bs) h = rw (set_past t at b h, placed_past t (suc at) bs (omega arith))

-- a place that saturates lies past the end of every text, as the place that it stands for does
pub placed_saturated : (t : List ℕ) (at : ℕ) (bs : List ℕ) → length t < 2 ^ 64 → placed t (min at (2 ^ 64 - 1)) bs ≡ placed t at bs
placed_saturated t at bs h =
    elim (cases_lt at (2 ^ 64 - 1)) [
      | inl below ↦ let e : min at (2 ^ 64 - 1) ≡ at = omega arith in rw e
      | inr past ↦ placed_past t (min at (2 ^ 64 - 1)) bs (omega arith) ∙ sym (placed_past t at bs (omega arith))
    ]

-- one byte, and then the rest from the next place on, which may saturate
pub placed_next : (t : List ℕ) (at b : ℕ) (bs : List ℕ) → length t < 2 ^ 64 → placed (set t at b) (min (at + 1) (2 ^ 64 - 1)) bs ≡ placed t at (b ∷ bs)
placed_next t at b bs h = placed_saturated (set t at b) (at + 1) bs (rw length-set h) ∙ rw add-one

-- a number of 64 bits has at most twenty digits
pub decimal_length_le : (n : ℕ) → n < 2 ^ 64 → length (decimal n) ≤ 20
decimal_length_le n h = length-decimal-le 20 n (lit< tt) (omega arith) h

-- the last digit is one more than those of the front
pub decimal_length_more : (n : ℕ) → 10 ≤ n → n < 2 ^ 64 → length (decimal n) ≡ length (decimal (n / 10)) + 1
decimal_length_more n h small = ap length (decimal_step n h small) ∙ length_push _ _
