-- One more byte of a numeral.
use Rattle.std.proofs.Common.{◌≡◌, ℕ, ◌+◌, ◌-◌, ◌*◌, ◌<◌, ◌≤◌, Bool, true, false, cond, ◌&&◌, ltb, leb, List, [], ◌∷◌, length, Some, None, sym, refl, ap, ◌∙◌, arith, le-ltb, lt-ltb, ne_eqb, leb-true}
use Rattle.scripts.specs.Numerals.{digit, numeral, value_from, limit, reads_from, number_of}

and_first : (a b : Bool) → (a && b) ≡ true → a ≡ true
and_first true b e = refl
and_first false b e = e

and_false : (a : Bool) → (a && false) ≡ false
and_false true = refl
and_false false = refl

pub at_least_48 : (b : ℕ) → true ≡ digit b → 48 ≤ b
at_least_48 b e = leb-true 48 b (and_first (leb 48 b) (leb b 57) (sym e))

-- the value of a numeral is no less than that of its front
front_le : (n : ℕ) (bs : List ℕ) → n ≤ value_from n bs
front_le n [] = omega arith
front_le n (b ∷ bs) = let ih = front_le (n * 10 + (b - 48)) bs in omega arith

pub reads_more : (n b : ℕ) (bs : List ℕ) → true ≡ digit b → reads_from n (b ∷ bs) ≡ reads_from (n * 10 + (b - 48)) bs
reads_more n b bs e = ap (λ t. cond ((t && numeral bs) && ltb (value_from n (b ∷ bs)) limit) (Some (value_from n (b ∷ bs))) None) (sym e)

pub no_digit : (n b : ℕ) (bs : List ℕ) → false ≡ digit b → reads_from n (b ∷ bs) ≡ None
no_digit n b bs e = ap (λ t. cond ((t && numeral bs) && ltb (value_from n (b ∷ bs)) limit) (Some (value_from n (b ∷ bs))) None) (sym e)

pub too_large : (n : ℕ) (bs : List ℕ) → limit ≤ n → reads_from n bs ≡ None
too_large n bs h =
    let le = front_le n bs in
    ap (λ t. cond (numeral bs && t) (Some (value_from n bs)) None) (le-ltb (value_from n bs) limit (omega arith))
    ∙ ap (λ t. cond t (Some (value_from n bs)) None) (and_false (numeral bs))

pub all_read : (n : ℕ) → n < limit → reads_from n [] ≡ Some n
all_read n h = ap (λ t. cond t (Some n) None) (lt-ltb n limit h)

pub not_empty : (bs : List ℕ) → (length bs ≡ 0 → ⊥) → number_of bs ≡ reads_from 0 bs
not_empty bs h = ap (λ t. cond t None (reads_from 0 bs)) (ne_eqb (length bs) 0 h)
