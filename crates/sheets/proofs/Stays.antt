-- The rows that a sweep leaves are those that stay by its rule.
use Rattle.std.proofs.Common.{◌≡◌, suc, Bool, cond, List, [], ◌∷◌, ◌++◌, length, sym, refl, ap, ◌∙◌, arith}
use Rattle.std.proofs.lemmas.List.{append_assoc, append-nil, length-append}
use Rattle.goals.specs.Goals.{Meaning}
use Rattle.sheets.specs.Sweeping.{needed, kept, chosen, Swept}
use Rattle.sheets.specs.declared.row.Row.{Row}

module _ (m : Meaning) where
  -- which rows stay, where others stand before them
  abbrev staying : List Row → List Row → List Bool
  staying before [] = []
  staying before (r ∷ rs) = needed m r (before ++ kept m (before ++ (r ∷ [])) rs) ∷ staying (before ++ (r ∷ [])) rs

  length_staying : (before rows : List Row) → length (staying before rows) ≡ length rows
  length_staying before [] = refl
  length_staying before (r ∷ rs) = ap suc (length_staying (before ++ (r ∷ [])) rs)

  chosen_staying : (before rows : List Row) → chosen (staying before rows) rows ≡ kept m before rows
  chosen_staying before [] = refl
  chosen_staying before (r ∷ rs) = ap (λ l. cond (needed m r (before ++ kept m (before ++ (r ∷ [])) rs)) (r ∷ l) l) (chosen_staying (before ++ (r ∷ [])) rs)

  rule : (before rows xs ys : List Row) (r : Row) (bs cs : List Bool) (b : Bool) → rows ≡ xs ++ (r ∷ ys) → staying before rows ≡ bs ++ (b ∷ cs) → length bs ≡ length xs → b ≡ needed m r ((before ++ xs) ++ chosen cs ys)
  rule before [] xs ys r bs cs b e f l = let h = ap length e in absurd (omega (arith, length-append xs (r ∷ ys)))
  rule before (q ∷ qs) [] ys r [] cs b e f l =
      let qr : q ≡ r = cc in
      let rest : qs ≡ ys = cc in
      let head : needed m q (before ++ kept m (before ++ (q ∷ [])) qs) ≡ b = cc in
      let tail : staying (before ++ (q ∷ [])) qs ≡ cs = cc in
      let at : chosen cs ys ≡ kept m (before ++ (q ∷ [])) qs = ap (λ x. chosen x ys) (sym tail) ∙ ap (chosen (staying (before ++ (q ∷ [])) qs)) (sym rest) ∙ chosen_staying (before ++ (q ∷ [])) qs in
      sym head ∙ ap (λ x. needed m x (before ++ kept m (before ++ (q ∷ [])) qs)) qr ∙ ap (λ x. needed m r (before ++ x)) (sym at) ∙ ap (λ x. needed m r (x ++ chosen cs ys)) (sym (append-nil before))
  rule before (q ∷ qs) [] ys r (d ∷ bs) cs b e f l = absurd (omega arith)
  rule before (q ∷ qs) (x ∷ xs) ys r [] cs b e f l = absurd (omega arith)
  rule before (q ∷ qs) (x ∷ xs) ys r (d ∷ bs) cs b e f l =
      let qx : q ≡ x = cc in
      let rest : qs ≡ xs ++ (r ∷ ys) = cc in
      let tail : staying (before ++ (q ∷ [])) qs ≡ bs ++ (b ∷ cs) = cc in
      let ih = rule (before ++ (q ∷ [])) qs xs ys r bs cs b rest tail (omega arith) in
      ih ∙ ap (λ t. needed m r (t ++ chosen cs ys)) (append_assoc before (q ∷ []) xs ∙ ap (λ t. before ++ (t ∷ xs)) qx)

  pub swept : (rows : List Row) → Swept m rows (kept m [] rows)
  swept rows = record {
    stays = staying [] rows;
    each = length_staying [] rows;
    rest = sym (chosen_staying [] rows);
    rule = λ xs ys r bs cs b e f l. rule [] rows xs ys r bs cs b e f l;
  }
