-- How many rows have a serial, which of them are out, and how many are out in all, after each change of the rows.
use Rattle.std.proofs.Common.{◌≡◌, ℕ, ◌+◌, ◌≤◌, true, false, cond, ◌&&◌, ◌||◌, eqb, List, [], ◌∷◌, ◌++◌, length, Some, None, refl, ap, arith}
use Rattle.std.proofs.lemmas.Bool.Decides.{nat_tests}
use Rattle.goals.specs.Goals.{Meaning}
use Rattle.sheets.specs.Sheets.{row_of, replaced, without}
use Rattle.sheets.specs.Sweeping.{kept}
use Rattle.sheets.specs.declared.row.Row.{Row}
use Rattle.runs.specs.Hands.{out_at, tally, outs}

pub outs_few : (rows : List Row) → outs rows ≤ length rows
outs_few [] = omega arith
outs_few (r ∷ rs) = let ih = outs_few rs in grind (arith, nat_tests)

-- a serial of no row
none_out : (rows : List Row) (n : ℕ) → tally rows n ≡ 0 → out_at rows n ≡ false
none_out [] n t = refl
none_out (y ∷ ys) n t = let ih : tally ys n ≡ 0 → out_at ys n ≡ false = none_out ys n in grind (arith, nat_tests)

-- the row of a serial
pub serial_of : (rows : List Row) (n : ℕ) (r : Row) → row_of rows n ≡ Some r → r.serial ≡ n
serial_of [] n r f = let z : ◌≡◌ {A = ℕ} 0 1 = cc in absurd (omega arith)
serial_of (y ∷ ys) n r f = let ih : row_of ys n ≡ Some r → r.serial ≡ n = serial_of ys n r in grind (arith, nat_tests)

pub out_at_row : (rows : List Row) (n : ℕ) (r : Row) → row_of rows n ≡ Some r → r.out ≡ true → out_at rows n ≡ true
out_at_row [] n r f o = let z : ◌≡◌ {A = ℕ} 0 1 = cc in absurd (omega arith)
out_at_row (y ∷ ys) n r f o = let ih : row_of ys n ≡ Some r → out_at ys n ≡ true = λ g. out_at_row ys n r g o in grind (arith, nat_tests)

pub out_at_no_row : (rows : List Row) (n : ℕ) → row_of rows n ≡ None → out_at rows n ≡ false
out_at_no_row [] n f = refl
out_at_no_row (y ∷ ys) n f = let ih : row_of ys n ≡ None → out_at ys n ≡ false = out_at_no_row ys n in grind (arith, nat_tests)

pub out_at_in_place : (rows : List Row) (n : ℕ) (r : Row) → tally rows n ≤ 1 → row_of rows n ≡ Some r → r.out ≡ false → out_at rows n ≡ false
out_at_in_place [] n r t f o = refl
out_at_in_place (y ∷ ys) n r t f o =
    let ih : tally ys n ≤ 1 → row_of ys n ≡ Some r → out_at ys n ≡ false = λ u g. out_at_in_place ys n r u g o in
    let none : tally ys n ≡ 0 → out_at ys n ≡ false = none_out ys n in
    grind (arith, nat_tests)

-- the row of serial n is changed to x
module _ (n : ℕ) (x : Row) where
  pub tally_replaced : x.serial ≡ n → (rows : List Row) (k : ℕ) → tally (replaced rows n x) k ≡ tally rows k
  tally_replaced sx [] k = refl
  tally_replaced sx (y ∷ ys) k = let ih = tally_replaced sx ys k in grind (arith, nat_tests)

  pub outs_replaced : (rows : List Row) (r : Row) → row_of rows n ≡ Some r → outs (replaced rows n x) + cond r.out 1 0 ≡ outs rows + cond x.out 1 0
  outs_replaced [] r f = let z : ◌≡◌ {A = ℕ} 0 1 = cc in absurd (omega arith)
  outs_replaced (y ∷ ys) r f = let ih : row_of ys n ≡ Some r → outs (replaced ys n x) + cond r.out 1 0 ≡ outs ys + cond x.out 1 0 = outs_replaced ys r in grind (arith, nat_tests)

  pub out_at_replaced : x.serial ≡ n → (rows : List Row) (k : ℕ) → (k ≡ n → ⊥) → out_at (replaced rows n x) k ≡ out_at rows k
  out_at_replaced sx [] k ne = refl
  out_at_replaced sx (y ∷ ys) k ne = let ih = out_at_replaced sx ys k ne in grind (arith, nat_tests)

  -- the one row of its serial is then in place
  pub out_at_back : x.out ≡ false → (rows : List Row) → tally rows n ≤ 1 → out_at (replaced rows n x) n ≡ false
  out_at_back o [] t = refl
  out_at_back o (y ∷ ys) t =
      let ih : tally ys n ≤ 1 → out_at (replaced ys n x) n ≡ false = out_at_back o ys in
      let none : tally ys n ≡ 0 → out_at ys n ≡ false = none_out ys n in
      grind (arith, nat_tests)

-- it is removed
module _ (n : ℕ) where
  pub tally_without : (rows : List Row) (k : ℕ) → tally (without rows n) k ≤ tally rows k
  tally_without [] k = omega arith
  tally_without (y ∷ ys) k = let ih = tally_without ys k in grind (arith, nat_tests)

  pub outs_without : (rows : List Row) (r : Row) → row_of rows n ≡ Some r → outs (without rows n) + cond r.out 1 0 ≡ outs rows
  outs_without [] r f = let z : ◌≡◌ {A = ℕ} 0 1 = cc in absurd (omega arith)
  outs_without (y ∷ ys) r f = let ih : row_of ys n ≡ Some r → outs (without ys n) + cond r.out 1 0 ≡ outs ys = outs_without ys r in grind (arith, nat_tests)

  pub out_at_without : (rows : List Row) (k : ℕ) → out_at (without rows n) k ≡ true → out_at rows k ≡ true
  out_at_without [] k e = e
  out_at_without (y ∷ ys) k e = let ih : out_at (without ys n) k ≡ true → out_at ys k ≡ true = out_at_without ys k in grind (arith, nat_tests)

  pub out_at_gone : (rows : List Row) → tally rows n ≤ 1 → out_at (without rows n) n ≡ false
  out_at_gone [] t = refl
  out_at_gone (y ∷ ys) t =
      let ih : tally ys n ≤ 1 → out_at (without ys n) n ≡ false = out_at_gone ys in
      let none : tally ys n ≡ 0 → out_at ys n ≡ false = none_out ys n in
      grind (arith, nat_tests)

-- a row more, in place
pub tally_push : (xs : List Row) (r : Row) (k : ℕ) → tally (xs ++ (r ∷ [])) k ≡ tally xs k + cond (eqb r.serial k) 1 0
tally_push [] r k = omega arith
tally_push (y ∷ ys) r k = let h = tally_push ys r k in omega arith

pub out_at_push : (xs : List Row) (r : Row) (k : ℕ) → r.out ≡ false → out_at (xs ++ (r ∷ [])) k ≡ out_at xs k
out_at_push [] r k o = grind arith
out_at_push (y ∷ ys) r k o = ap (λ b. (y.out && eqb y.serial k) || b) (out_at_push ys r k o)

pub outs_push : (xs : List Row) (r : Row) → r.out ≡ false → outs (xs ++ (r ∷ [])) ≡ outs xs
outs_push [] r o = rw o
outs_push (y ∷ ys) r o = ap (λ q. cond y.out 1 0 + q) (outs_push ys r o)

-- a sweep only removes rows in place
module _ (m : Meaning) where
  pub tally_kept : (before rows : List Row) (k : ℕ) → tally (kept m before rows) k ≤ tally rows k
  tally_kept before [] k = omega arith
  tally_kept before (r ∷ rs) k = let ih = tally_kept (before ++ (r ∷ [])) rs k in grind (arith, nat_tests)

  pub out_at_kept : (before rows : List Row) (k : ℕ) → out_at (kept m before rows) k ≡ true → out_at rows k ≡ true
  out_at_kept before [] k e = e
  out_at_kept before (r ∷ rs) k e = let ih : out_at (kept m (before ++ (r ∷ [])) rs) k ≡ true → out_at rs k ≡ true = out_at_kept (before ++ (r ∷ [])) rs k in grind (arith, nat_tests)

  pub outs_kept : (before rows : List Row) → outs (kept m before rows) ≡ outs rows
  outs_kept before [] = refl
  outs_kept before (r ∷ rs) = let ih = outs_kept (before ++ (r ∷ [])) rs in grind (arith, nat_tests)
