-- The lines of the listing: their letters and lengths, and how a line, and the lines of all rows, are written piece by
-- piece into lent text.
use Rattle.std.proofs.Common.{◌≡◌, ℕ, ◌+◌, ◌<◌, true, false, List, [], ◌∷◌, ◌++◌, length, get_or, drop, set, decimal, sym, ap, ◌∙◌, subst, add-one, arith}
use Rattle.std.proofs.lemmas.List.FromFn.{length-map-range_with_len, map-range_with_len_more}
use Rattle.std.proofs.lemmas.List.{length-append, at_drop_more}
use Rattle.std.proofs.lemmas.Bool.{eq-eqb, ne_eqb}
use Rattle.texts.specs.Texts.{placed}
use Rattle.texts.proofs.Placing.{placed_append}
use Rattle.cubes.specs.Masks.{bit}
use Rattle.sheets.specs.Sheets.{no_row}
use Rattle.sheets.specs.declared.row.Row.{Row}
use Rattle.sheets.specs.Listing.{row_letter, row_letters, row_line, lines}

-- the letter of an input by the bits of the masks
pub letter_zero : (r : Row) (i : ℕ) → bit r.zeros i ≡ 1 → 48 ≡ row_letter r i
letter_zero r i h = rw (eq-eqb (bit r.zeros i) 1 h)

pub letter_one : (r : Row) (i : ℕ) → (bit r.zeros i ≡ 1 → ⊥) → bit r.ones i ≡ 1 → 49 ≡ row_letter r i
letter_one r i n h = rw (ne_eqb (bit r.zeros i) 1 n, eq-eqb (bit r.ones i) 1 h)

pub letter_unknown : (r : Row) (i : ℕ) → (bit r.zeros i ≡ 1 → ⊥) → (bit r.ones i ≡ 1 → ⊥) → 88 ≡ row_letter r i
letter_unknown r i n m = rw (ne_eqb (bit r.zeros i) 1 n, ne_eqb (bit r.ones i) 1 m)

pub length_letters : (n : ℕ) (r : Row) → length (row_letters n r) ≡ n
length_letters n r = length-map-range_with_len (row_letter r) 0 n

-- one letter more
pub letters_more : (t : List ℕ) (at i : ℕ) (r : Row) → set (placed t at (row_letters i r)) (at + i) (row_letter r i) ≡ placed t at (row_letters (i + 1) r)
letters_more t at i r =
    let e : at + i ≡ at + length (row_letters i r) = let l = length_letters i r in omega arith in
    ap (λ k. set (placed t at (row_letters i r)) k (row_letter r i)) e
    ∙ placed_append t at (row_letters i r) (row_letter r i ∷ [])
    ∙ ap (placed t at) (sym (map-range_with_len_more (row_letter r) 0 i i (omega arith)))

-- a line is the serial, two bytes and the letters long
pub length_line : (n : ℕ) (r : Row) → length (row_line n r) ≡ length (decimal r.serial) + 2 + n
length_line n r =
    let a = length-append (decimal r.serial) (32 ∷ (row_letters n r ++ (10 ∷ []))) in
    let b = length-append (row_letters n r) (10 ∷ []) in
    let l = length_letters n r in
    omega arith

-- the four pieces of a line, written one after the other, are the line
pub line_written : (t : List ℕ) (at n : ℕ) (r : Row) (blank end : ℕ) → blank ≡ at + length (decimal r.serial) → end ≡ blank + 1 + n →
    set (placed (set (placed t at (decimal r.serial)) blank 32) (blank + 1) (row_letters n r)) end 10 ≡ placed t at (row_line n r)
line_written t at n r blank end p q =
    let s = decimal r.serial in
    let ls = row_letters n r in
    let u = set (placed t at s) blank 32 in
    let l = length_letters n r in
    let e : end ≡ blank + 1 + length ls = omega arith in
    ap (λ k. set (placed u (blank + 1) ls) k 10) e
    ∙ placed_append u (blank + 1) ls (10 ∷ [])
    ∙ ap (λ k. placed u k (ls ++ (10 ∷ []))) (add-one blank)
    ∙ ap (λ k. placed (placed t at s) k (32 ∷ (ls ++ (10 ∷ [])))) p
    ∙ placed_append t at s (32 ∷ (ls ++ (10 ∷ [])))

-- a row that is out has no line
pub first_out : (n : ℕ) (r : Row) (rs : List Row) → r.out ≡ true → lines n (r ∷ rs) ≡ lines n rs
first_out n r rs o = rw o

first_in : (n : ℕ) (r : Row) (rs : List Row) → r.out ≡ false → lines n (r ∷ rs) ≡ row_line n r ++ lines n rs
first_in n r rs o = rw o

-- the line of a row in place, and then the lines of the rest
pub lines_more : (t : List ℕ) (at n : ℕ) (r : Row) (rs : List Row) → r.out ≡ false →
    placed t at (lines n (r ∷ rs)) ≡ placed (placed t at (row_line n r)) (at + length (row_line n r)) (lines n rs)
lines_more t at n r rs o = ap (placed t at) (first_in n r rs o) ∙ sym (placed_append t at (row_line n r) (lines n rs))

pub length_lines_in : (n : ℕ) (r : Row) (rs : List Row) → r.out ≡ false → length (lines n (r ∷ rs)) ≡ length (row_line n r) + length (lines n rs)
length_lines_in n r rs o = ap length (first_in n r rs o) ∙ length-append (row_line n r) (lines n rs)

-- the lines from row i on: the row has none where it is out, else its own comes first
module _ (n : ℕ) (rows : List Row) (i : ℕ) (h : i < length rows) where
  pub lines_out : (get_or rows i no_row).out ≡ true → lines n (drop i rows) ≡ lines n (drop (i + 1) rows)
  lines_out o = at_drop_more (lines n) rows i no_row h ∙ first_out n (get_or rows i no_row) (drop (i + 1) rows) o

  pub lines_in : (get_or rows i no_row).out ≡ false → lines n (drop i rows) ≡ row_line n (get_or rows i no_row) ++ lines n (drop (i + 1) rows)
  lines_in o = at_drop_more (lines n) rows i no_row h ∙ first_in n (get_or rows i no_row) (drop (i + 1) rows) o

-- the lines of equal rows with equally many letters
pub listed : {a b : List Row} {n k : ℕ} (P : List ℕ → Type 0) → a ≡ b → n ≡ k → P (lines n a) → P (lines k b)
listed {b = b} {n = n} P rows inputs h = subst (λ i. P (lines i b)) inputs (subst (λ xs. P (lines n xs)) rows h)
