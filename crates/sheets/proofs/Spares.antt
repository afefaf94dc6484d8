-- After a sweep no row is spare: each row in place has a duty of its own.
use Rattle.std.proofs.Common.{◌≡◌, ℕ, Bool, true, false, cond, not, ◌&&◌, List, [], ◌∷◌, ◌++◌, is_some, Some, None, Option, refl, arith}
use Rattle.std.proofs.lemmas.List.{append_assoc}
use Rattle.std.proofs.lemmas.List.Folds.{list_any-append}
use Rattle.goals.specs.Goals.{Meaning}
use Rattle.sheets.specs.Sheets.{row_covers, in_place, lost}
use Rattle.sheets.specs.Sweeping.{needed, keep, kept}
use Rattle.sheets.specs.Running.{NoneSpare}
use Rattle.sheets.specs.declared.row.Row.{Row}
use Rattle.cubes.proofs.Searches.{least_some}

module _ (m : Meaning) where
  abbrev covers_in_place : ℕ → Row → Bool
  covers_in_place d r = not r.out && row_covers m r d

  abbrev Own : Row → List Row → Type 0
  Own r others = (d : ℕ) × (m.wanted d ≡ true) × (row_covers m r d ≡ true) × (in_place m others d ≡ false)

  abbrev NoneSpareFrom : List Row → List Row → Type 0
  NoneSpareFrom before [] = Unit {0}
  NoneSpareFrom before (r ∷ rs) = (r.out ≡ false → Own r (before ++ rs)) × NoneSpareFrom (before ++ (r ∷ [])) rs

  own : (r : Row) (others : List Row) → needed m r others ≡ true → r.out ≡ false → Own r others
  own r others n o = step (lost m (row_covers m r) (in_place m others)) refl (let z = o in grind arith)
    where
      step : (q : Option ℕ) → lost m (row_covers m r) (in_place m others) ≡ q → is_some q ≡ true → Own r others
      step None f e = grind arith
      step (Some d) f e =
          let p : (m.wanted d && (row_covers m r d && not (in_place m others d))) ≡ true = (least_some m.duties (λ k. m.wanted k && (row_covers m r k && not (in_place m others k))) d f).1 in
          (d, grind arith, grind arith, grind arith)

  -- with fewer rows in front
  fewer : (b a rs : List Row) → ((d : ℕ) → in_place m b d ≡ false → in_place m a d ≡ false) → NoneSpareFrom b rs → NoneSpareFrom a rs
  fewer b a [] f l = tt
  fewer b a (r ∷ rs) f l = (λ o. (let w = l.0 o in (w.0, w.1, w.2, less rs w.0 w.3)), fewer (b ++ (r ∷ [])) (a ++ (r ∷ [])) rs (less (r ∷ [])) l.1)
    where
      less : (xs : List Row) (d : ℕ) → in_place m (b ++ xs) d ≡ false → in_place m (a ++ xs) d ≡ false
      less xs d e = let g = f d in let p = list_any-append (covers_in_place d) b xs in let q = list_any-append (covers_in_place d) a xs in grind arith

  none_spare_kept : (before rows : List Row) → NoneSpareFrom before (kept m before rows)
  none_spare_kept before [] = tt
  none_spare_kept before (r ∷ rs) = step (kept m (before ++ r ∷ []) rs) (none_spare_kept (before ++ r ∷ []) rs)
    where
      step : (after : List Row) → NoneSpareFrom (before ++ (r ∷ [])) after → NoneSpareFrom before (keep m before r after)
      step after l = by (needed m r (before ++ after)) refl
        where
          by : (b : Bool) → needed m r (before ++ after) ≡ b → NoneSpareFrom before (cond b (r ∷ after) after)
          by true n = (own r (before ++ after) n, l)
          by false n = fewer (before ++ (r ∷ [])) before after (λ d e. (let p = list_any-append (covers_in_place d) before (r ∷ []) in grind arith)) l

  at_split : (before xs ys : List Row) (r : Row) → NoneSpareFrom before (xs ++ (r ∷ ys)) → r.out ≡ false → Own r (before ++ (xs ++ ys))
  at_split before [] ys r l o = l.0 o
  at_split before (x ∷ xs) ys r l o = rw (append_assoc before (x ∷ []) (xs ++ ys)) at (at_split (before ++ (x ∷ [])) xs ys r l.1 o)

  pub none_spare_swept : (rows : List Row) → NoneSpare m (kept m [] rows)
  none_spare_swept rows xs ys r e o = at_split [] xs ys r (rw e at (none_spare_kept [] rows)) o
