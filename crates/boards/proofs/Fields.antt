-- The fields of a record, byte by byte: two bytes more of its pins, and one byte more of its zeros.
use Rattle.std.proofs.Common.{◌≡◌, ℕ, zero, suc, ◌+◌, ◌-◌, ◌*◌, ◌<◌, ◌≤◌, false, ◌&&◌, ltb, List, [], ◌∷◌, length, get_or, take, drop, sym, ap, ◌∙◌, arith}
use Rattle.std.proofs.lemmas.List.{at_drop_more, drop_more, drop_all}
use Rattle.std.proofs.lemmas.Bool.{ne_eqb, eq-eqb, le-ltb, lt-ltb}
use Rattle.boards.specs.Records.{word, words, zeros, all_below}

-- a byte that is zero leaves the question to the bytes after it
pub zeros_more : (bs : List ℕ) (k : ℕ) → k < length bs → get_or bs k 0 ≡ 0 → zeros (drop (k + 1) bs) ≡ zeros (drop k bs)
zeros_more bs k h e = sym (at_drop_more zeros bs k 0 h ∙ ap (λ t. t && zeros (drop (k + 1) bs)) (eq-eqb (get_or bs k 0) 0 e))

-- a byte that is not decides it
pub zeros_end : (bs : List ℕ) (k : ℕ) → k < length bs → (get_or bs k 0 ≡ 0 → ⊥) → zeros (drop k bs) ≡ false
zeros_end bs k h n = at_drop_more zeros bs k 0 h ∙ ap (λ t. t && zeros (drop (k + 1) bs)) (ne_eqb (get_or bs k 0) 0 n)

-- the field at pin k, and the pins after it
pub words_more : (bs : List ℕ) (k : ℕ) → 2 * k + 1 < length bs → words (drop (2 * k) bs) ≡ word (get_or bs (2 * k) 0) (get_or bs (2 * k + 1) 0) ∷ words (drop (2 * (k + 1)) bs)
words_more bs k h =
    let e = drop_more bs (2 * k) 0 (omega arith) in
    let f = drop_more bs (2 * k + 1) 0 h in
    let n : 2 * k + 1 + 1 ≡ 2 * (k + 1) = omega arith in
    ap words e ∙ ap (λ ys. words (get_or bs (2 * k) 0 ∷ ys)) f ∙ ap (λ j. word (get_or bs (2 * k) 0) (get_or bs (2 * k + 1) 0) ∷ words (drop j bs)) n

-- the first pin of those left, and the question whether they are earlier lines
below_first : (lines n : ℕ) (xs ys : List ℕ) (w : ℕ) → 0 < n → xs ≡ w ∷ ys → all_below lines (take n xs) ≡ (ltb w lines && all_below lines (take (n - 1) ys))
below_first lines zero xs ys w h e = absurd (omega arith)
below_first lines (suc n) xs ys w h e = let m : suc n - 1 ≡ n = omega arith in rw (e, m)

module _ (lines count : ℕ) (bs : List ℕ) (k : ℕ) (w : ℕ) (inside : 2 * k + 1 < length bs) (left : k < count) (is : w ≡ word (get_or bs (2 * k) 0) (get_or bs (2 * k + 1) 0)) where
  below_here : all_below lines (take (count - k) (words (drop (2 * k) bs))) ≡ (ltb w lines && all_below lines (take (count - (k + 1)) (words (drop (2 * (k + 1)) bs))))
  below_here =
      let n : count - k - 1 ≡ count - (k + 1) = omega arith in
      below_first lines (count - k) (words (drop (2 * k) bs)) (words (drop (2 * (k + 1)) bs)) w (omega arith) (words_more bs k inside ∙ ap (λ x. x ∷ words (drop (2 * (k + 1)) bs)) (sym is))
      ∙ ap (λ m. ltb w lines && all_below lines (take m (words (drop (2 * (k + 1)) bs)))) n

  pub below_more_pins : w < lines → all_below lines (take (count - (k + 1)) (words (drop (2 * (k + 1)) bs))) ≡ all_below lines (take (count - k) (words (drop (2 * k) bs)))
  below_more_pins h = sym (below_here ∙ ap (λ t. t && all_below lines (take (count - (k + 1)) (words (drop (2 * (k + 1)) bs)))) (lt-ltb w lines h))

  pub below_end : lines ≤ w → all_below lines (take (count - k) (words (drop (2 * k) bs))) ≡ false
  below_end h = below_here ∙ ap (λ t. t && all_below lines (take (count - (k + 1)) (words (drop (2 * (k + 1)) bs)))) (le-ltb w lines h)

-- the six fields of twelve bytes
pub six_words : (bs : List ℕ) → length bs ≡ 12 → words bs ≡ word (get_or bs 0 0) (get_or bs 1 0) ∷ (word (get_or bs 2 0) (get_or bs 3 0) ∷ (word (get_or bs 4 0) (get_or bs 5 0) ∷ (word (get_or bs 6 0) (get_or bs 7 0) ∷ (word (get_or bs 8 0) (get_or bs 9 0) ∷ (word (get_or bs 10 0) (get_or bs 11 0) ∷ [])))))
six_words bs h =
    words_more bs 0 (omega arith)
    ∙ ap (λ ws. word (get_or bs 0 0) (get_or bs 1 0) ∷ ws) (words_more bs 1 (omega arith)
    ∙ ap (λ ws. word (get_or bs 2 0) (get_or bs 3 0) ∷ ws) (words_more bs 2 (omega arith)
    ∙ ap (λ ws. word (get_or bs 4 0) (get_or bs 5 0) ∷ ws) (words_more bs 3 (omega arith)
    ∙ ap (λ ws. word (get_or bs 6 0) (get_or bs 7 0) ∷ ws) (words_more bs 4 (omega arith)
    ∙ ap (λ ws. word (get_or bs 8 0) (get_or bs 9 0) ∷ ws) (words_more bs 5 (omega arith)
    ∙ ap (λ ys. word (get_or bs 10 0) (get_or bs 11 0) ∷ words ys) (drop_all 12 bs (omega arith)))))))

pub six_lines : (bs : List ℕ) → length bs ≡ 12 → length (words bs) ≡ 6
six_lines bs h = ap length (six_words bs h)
