-- The sweep from the last row to the first: the rows when those from some place on have been looked at, and how many
-- they are.
use Rattle.std.proofs.Common.{◌≡◌, ℕ, ◌+◌, ◌-◌, ◌<◌, ◌≤◌, Bool, true, false, cond, List, [], ◌∷◌, ◌++◌, length, get_or, take, drop, sym, refl, ap, ◌∙◌, arith}
use Rattle.std.specs.List.{remove}
use Rattle.std.proofs.lemmas.List.{append_assoc, append-nil, take_all, drop_all, take_more, drop_more, length-take-le, length-append, length-drop, get_or_at}
use Rattle.std.proofs.lemmas.List.Edits.{remove-append_right}
use Rattle.std.proofs.lemmas.Bool.Decides.{nat_tests}
use Rattle.goals.specs.Goals.{Meaning}
use Rattle.sheets.specs.declared.row.Row.{Row}
use Rattle.sheets.specs.Sheets.{no_row}
use Rattle.sheets.specs.Sweeping.{needed, keep, kept}

removed_at : (p : List Row) (r : Row) (q : List Row) (i : ℕ) → length p ≡ i → remove (p ++ (r ∷ q)) i ≡ p ++ q
removed_at p r q i h = let z : i - i ≡ 0 = omega arith in remove-append_right p (r ∷ q) i i h (omega arith) ∙ ap (λ k. p ++ remove (r ∷ q) k) z

module _ (m : Meaning) where
  -- the rows when those from i on have been looked at
  abbrev pub sweeps : List Row → ℕ → List Row
  sweeps xs i = take i xs ++ kept m (take i xs) (drop i xs)

  -- what one look at row i leaves
  abbrev pub looked : List Row → ℕ → List Row
  looked ys i = cond (needed m (get_or ys i no_row) (remove ys i)) ys (remove ys i)

  pub sweeps_none : (xs : List Row) (i : ℕ) → length xs ≤ i → sweeps xs i ≡ xs
  sweeps_none xs i h = rw (take_all i xs h, drop_all i xs h) (append-nil xs)

  one : (p : List Row) (r : Row) (after : List Row) (i : ℕ) (ys : List Row) → length p ≡ i → ys ≡ p ++ (r ∷ after) → looked ys i ≡ p ++ keep m p r after
  one p r after i ys h e =
      let rem : remove ys i ≡ p ++ after = ap (λ l. remove l i) e ∙ removed_at p r after i h in
      let here : get_or ys i no_row ≡ r = ap (λ l. get_or l i no_row) e ∙ get_or_at p r after no_row i h in
      ap (λ l. cond (needed m (get_or ys i no_row) l) ys l) rem ∙ ap (λ x. cond (needed m x (p ++ after)) ys (p ++ after)) here ∙ ap (λ l. cond (needed m r (p ++ after)) l (p ++ after)) e ∙ split (needed m r (p ++ after))
    where
      split : (b : Bool) → cond b (p ++ (r ∷ after)) (p ++ after) ≡ p ++ cond b (r ∷ after) after
      split true = refl
      split false = refl

  -- one row more
  pub sweeps_more : (xs ys : List Row) (i : ℕ) → i < length xs → ys ≡ sweeps xs (i + 1) → looked ys i ≡ sweeps xs i
  sweeps_more xs ys i h e =
      let p = take i xs in
      let r = get_or xs i no_row in
      let front : take (i + 1) xs ≡ p ++ (r ∷ []) = take_more xs i no_row h in
      let rest : drop i xs ≡ r ∷ drop (i + 1) xs = drop_more xs i no_row h in
      let form : sweeps xs (i + 1) ≡ (p ++ (r ∷ [])) ++ kept m (p ++ (r ∷ [])) (drop (i + 1) xs) = ap (λ l. l ++ kept m l (drop (i + 1) xs)) front in
      let all : ys ≡ p ++ (r ∷ kept m (p ++ (r ∷ [])) (drop (i + 1) xs)) = e ∙ form ∙ append_assoc p (r ∷ []) (kept m (p ++ (r ∷ [])) (drop (i + 1) xs)) in
      one p r (kept m (p ++ (r ∷ [])) (drop (i + 1) xs)) i ys (length-take-le i xs (omega arith)) all ∙ ap (λ l. p ++ kept m p l) (sym rest)

  -- a sweep only removes
  length_kept : (before rows : List Row) → length (kept m before rows) ≤ length rows
  length_kept before [] = omega arith
  length_kept before (r ∷ rs) = let ih = length_kept (before ++ (r ∷ [])) rs in grind (arith, nat_tests)

  -- of n rows at least those not yet looked at are left, and at most n
  pub length_sweeps : (xs ys : List Row) (i : ℕ) → i ≤ length xs → ys ≡ sweeps xs i → (i ≤ length ys) × (length ys ≤ length xs)
  length_sweeps xs ys i h e =
      let n = ap length e in
      let a = length-append (take i xs) (kept m (take i xs) (drop i xs)) in
      let b = length-take-le i xs h in
      let c = length_kept (take i xs) (drop i xs) in
      let d = length-drop i xs in
      (omega arith, omega arith)
