use Rattle.std.proofs.Common.{◌≡◌, ℕ, ◌+◌, ◌≤◌, List, [], ◌∷◌, ◌++◌, length, set, codes, decimal, refl, ap, ◌∙◌, append_assoc, arith}
use Rattle.std.proofs.lemmas.List.{length-append}
use Rattle.texts.specs.Texts.{placed}
use Rattle.texts.proofs.Placing.{placed_append, placed_start}
use Rattle.boards.specs.Refusing.{number, named, refused_line}
use Rattle.boards.proofs.refusal.Unread.write_line.Goals as goal

-- five parts written one after the other
parts : (a b x d y : List ℕ) → (((a ++ b) ++ x) ++ d) ++ y ≡ a ++ (b ++ (x ++ (d ++ y)))
parts a b x d y = simp append_assoc

-- one part more, at the place where the parts before it end
next : (t before here : List ℕ) (at : ℕ) → at ≡ length before → placed (placed t 0 before) at here ≡ placed t 0 (before ++ here)
next t before here at e = let z : at ≡ 0 + length before = omega arith in ap (λ k. placed (placed t 0 before) k here) z ∙ placed_append t 0 before here

module _ (t : List ℕ) (n r : ℕ) where
  abbrev front : List ℕ
  front = codes "refused " ++ decimal n

  abbrev line : List ℕ
  line = codes "refused " ++ (decimal n ++ (32 ∷ (decimal r ++ (10 ∷ []))))

  front_length : length front ≡ 8 + length (decimal n)
  front_length = length-append (codes "refused ") (decimal n)

  line_length : length line ≡ 8 + length (decimal n) + 1 + length (decimal r) + 1
  line_length =
      let a = length-append (codes "refused ") (decimal n ++ (32 ∷ (decimal r ++ (10 ∷ [])))) in
      let b = length-append (decimal n) (32 ∷ (decimal r ++ (10 ∷ []))) in
      let d = length-append (decimal r) (10 ∷ []) in
      omega arith

  written : (blank end : ℕ) → blank ≡ 8 + length (decimal n) → end ≡ blank + 1 + length (decimal r) →
      set (placed (set (placed (placed t 0 (codes "refused ")) 8 (decimal n)) blank 32) (blank + 1) (decimal r)) end 10 ≡ placed t 0 line
  written blank end p q =
      let l = front_length in
      let l2 = length-append front (32 ∷ []) in
      let l3 = length-append (front ++ (32 ∷ [])) (decimal r) in
      ap (λ x. set (placed (set x blank 32) (blank + 1) (decimal r)) end 10) (next t (codes "refused ") (decimal n) 8 refl)
      ∙ ap (λ x. set (placed x (blank + 1) (decimal r)) end 10) (next t front (32 ∷ []) blank (omega arith))
      ∙ ap (λ x. set x end 10) (next t (front ++ (32 ∷ [])) (decimal r) (blank + 1) (omega arith))
      ∙ next t ((front ++ (32 ∷ [])) ++ decimal r) (10 ∷ []) end (omega arith)
      ∙ ap (placed t 0) (parts (codes "refused ") (decimal n) (32 ∷ []) (decimal r) (10 ∷ []))

-- the length of a number that a call gave
measured : (l n m : ℕ) → l ≡ length (decimal n) → n ≡ m → l ≡ length (decimal m)
measured l n m e p = e ∙ ap (λ k. length (decimal k)) p

pub returns : goal.returns
returns c =
    let u = c.args.self.now in
    let t = c.args.text.now in
    let n = c.number-number.result in
    let r = c.record-named.result in
    let blank = 8 + c.decimal_length-blank.result in
    let end = blank + 1 + c.decimal_length.result in
    let a = measured _ _ _ c.decimal_length-blank.ensures c.number-number.ensures in
    let b = measured _ _ _ c.decimal_length.ensures c.record-named.ensures in
    let l : length (refused_line u) ≡ 8 + length (decimal (number u)) + 1 + length (decimal (named u)) + 1 = line_length t (number u) (named u) in
    let fits : length (refused_line u) ≤ length t = omega (arith, c.if-text-end.false) in (
      omega arith,
      fits,
      c.put-2.ensures
          ∙ ap (λ x. set x end 10) (c.put_decimal-2.ensures
          ∙ ap (λ x. placed x (blank + 1) (decimal r)) (c.put.ensures
          ∙ ap (λ x. set x blank 32) (c.put_decimal.ensures
          ∙ ap (λ x. placed x 8 (decimal n)) c.put_all.ensures)))
          ∙ written t n r blank end (ap (λ k. 8 + k) c.decimal_length-blank.ensures) (ap (λ k. blank + 1 + k) c.decimal_length.ensures)
          ∙ ap (λ m. placed t 0 (line t m r)) c.number-number.ensures
          ∙ ap (λ m. placed t 0 (line t (number u) m)) c.record-named.ensures
          ∙ placed_start t (refused_line u) fits,
    )
