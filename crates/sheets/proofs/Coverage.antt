-- What a change of the rows does to what they cover, and to the rows of the serials.
use Rattle.std.proofs.Common.{◌≡◌, ℕ, true, not, ◌&&◌, ◌||◌, List, [], ◌∷◌, ◌++◌, Some, refl, ap, arith}
use Rattle.std.proofs.lemmas.Bool.Decides.{nat_tests}
use Rattle.std.proofs.lemmas.List.Folds.{list_any-append}
use Rattle.goals.specs.Goals.{Meaning}
use Rattle.sheets.specs.Sheets.{row_covers, covered, in_place, row_of, replaced, without}
use Rattle.sheets.specs.declared.row.Row.{Row}

module _ (m : Meaning) (d : ℕ) where
  same_row : (x y : Row) → x ≡ y → row_covers m x d ≡ row_covers m y d
  same_row x y e = ap (λ r. row_covers m r d) e

  -- what rows and further rows cover, and what those in place do
  pub covered_append : (xs ys : List Row) → covered m (xs ++ ys) d ≡ (covered m xs d || covered m ys d)
  covered_append xs ys = list_any-append (λ r. row_covers m r d) xs ys

  pub in_place_append : (xs ys : List Row) → in_place m (xs ++ ys) d ≡ (in_place m xs d || in_place m ys d)
  in_place_append xs ys = list_any-append (λ r. not r.out && row_covers m r d) xs ys

  pub covered_in_place : (xs : List Row) → in_place m xs d ≡ true → covered m xs d ≡ true
  covered_in_place [] e = e
  covered_in_place (x ∷ xs) e = let ih : in_place m xs d ≡ true → covered m xs d ≡ true = covered_in_place xs in grind arith

  -- the row of serial n, r, is changed to x
  pub covered_replaced : (rows : List Row) (n : ℕ) (r x : Row) → row_of rows n ≡ Some r → (row_covers m r d ≡ true → row_covers m x d ≡ true)
      → covered m rows d ≡ true → covered m (replaced rows n x) d ≡ true
  covered_replaced [] n r x f k e = e
  covered_replaced (y ∷ ys) n r x f k e = let ih : row_of ys n ≡ Some r → covered m ys d ≡ true → covered m (replaced ys n x) d ≡ true = λ g. covered_replaced ys n r x g k in let c = same_row y r in grind (arith, nat_tests)

  -- it is removed
  pub covered_without : (rows : List Row) (n : ℕ) (r : Row) → row_of rows n ≡ Some r → (row_covers m r d ≡ true → ⊥) → covered m rows d ≡ true → covered m (without rows n) d ≡ true
  covered_without [] n r f k e = e
  covered_without (y ∷ ys) n r f k e = let ih : row_of ys n ≡ Some r → covered m ys d ≡ true → covered m (without ys n) d ≡ true = λ g. covered_without ys n r g k in let c = same_row y r in grind (arith, nat_tests)

  -- a row that is out covers nothing in place, so it can go, or change
  pub in_place_without : (rows : List Row) (n : ℕ) (r : Row) → row_of rows n ≡ Some r → r.out ≡ true → in_place m rows d ≡ true → in_place m (without rows n) d ≡ true
  in_place_without [] n r f o e = e
  in_place_without (y ∷ ys) n r f o e = let ih : row_of ys n ≡ Some r → in_place m ys d ≡ true → in_place m (without ys n) d ≡ true = λ g. in_place_without ys n r g o in grind (arith, nat_tests)

  pub in_place_replaced : (rows : List Row) (n : ℕ) (r x : Row) → row_of rows n ≡ Some r → r.out ≡ true → in_place m rows d ≡ true → in_place m (replaced rows n x) d ≡ true
  in_place_replaced [] n r x f o e = e
  in_place_replaced (y ∷ ys) n r x f o e = let ih : row_of ys n ≡ Some r → in_place m ys d ≡ true → in_place m (replaced ys n x) d ≡ true = λ g. in_place_replaced ys n r x g o in grind (arith, nat_tests)

  -- the row of a serial covers what it covers
  pub covered_by : (rows : List Row) (n : ℕ) (r : Row) → row_of rows n ≡ Some r → row_covers m r d ≡ true → covered m rows d ≡ true
  covered_by [] n r f k = let z : ◌≡◌ {A = ℕ} 0 1 = cc in absurd (omega arith)
  covered_by (y ∷ ys) n r f k = let ih : row_of ys n ≡ Some r → covered m ys d ≡ true = λ g. covered_by ys n r g k in let c = same_row y r in grind (arith, nat_tests)

-- the row of another serial is as it was, and the changed row is the row of its serial
pub row_of_other : (rows : List Row) (a b : ℕ) (x : Row) → x.serial ≡ a → (a ≡ b → ⊥) → row_of (replaced rows a x) b ≡ row_of rows b
row_of_other [] a b x s ne = refl
row_of_other (y ∷ ys) a b x s ne = let ih = row_of_other ys a b x s ne in grind (arith, nat_tests)

pub row_of_same : (rows : List Row) (a : ℕ) (r x : Row) → row_of rows a ≡ Some r → x.serial ≡ a → row_of (replaced rows a x) a ≡ Some x
row_of_same [] a r x f s = let z : ◌≡◌ {A = ℕ} 0 1 = cc in absurd (omega arith)
row_of_same (y ∷ ys) a r x f s = let ih : row_of ys a ≡ Some r → row_of (replaced ys a x) a ≡ Some x = λ g. row_of_same ys a r x g s in grind (arith, nat_tests)

-- and so it is where another row is removed
pub row_of_without : (rows : List Row) (a b : ℕ) → (a ≡ b → ⊥) → row_of (without rows b) a ≡ row_of rows a
row_of_without [] a b ne = refl
row_of_without (y ∷ ys) a b ne = let ih = row_of_without ys a b ne in grind (arith, nat_tests)
