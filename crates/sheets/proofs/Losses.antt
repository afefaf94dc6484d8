-- Duties taken off a list row by row, and that the first one left is the smallest that is lost.
use Rattle.std.proofs.Common.{◌≡◌, ℕ, ◌+◌, ◌<◌, ◌≤◌, Bool, true, false, not, ◌&&◌, List, length, get_or, drop, Some, None, Option, arith}
use Rattle.std.specs.List.{AllWithin, HoldsAt}
use Rattle.std.specs.Option.{MatchOption}
use Rattle.std.proofs.lemmas.List.{at_drop_more, at_drop_all}
use Rattle.std.proofs.lemmas.Bool.{and_left}
use Rattle.cubes.specs.Searching.{least}
use Rattle.cubes.proofs.Searches.{first_least, least_further}
use Rattle.goals.specs.Goals.{Meaning, Lawful}
use Rattle.sheets.specs.Sheets.{row_covers, in_place, loses, lost, no_row}
use Rattle.sheets.specs.declared.row.Row.{Row}

-- the first that is true
pub first_true : (left : List Bool) (o : Option ℕ) → MatchOption o (AllWithin (λ b. b ≡ false) left 0 (length left)) (λ i. (i < length left) × HoldsAt (λ b. b ≡ true) left i × AllWithin (λ b. b ≡ false) left 0 i) → o ≡ least (length left) (λ d. get_or left d false)
first_true left None h = first_least (length left) (λ d. get_or left d false) None (λ k l. h k false (omega arith) l)
first_true left (Some i) h = first_least (length left) (λ d. get_or left d false) (Some i) (h.0, h.1 false, λ k l. h.2 k false (omega arith) l)

-- what is lost lies below the count of duties
pub lost_further : (m : Meaning) → Lawful m → (had has : ℕ → Bool) (left : List Bool) → m.duties ≤ length left → ((d : ℕ) → d < length left → get_or left d false ≡ loses m had has d) → least (length left) (λ d. get_or left d false) ≡ lost m had has
lost_further m law had has left le each = least_further (length left) m.duties (λ d. get_or left d false) (loses m had has) le each (λ d h. and_left _ _ (law.none_wanted_above d h))

-- the duties of a list that no row of another covers in place are those that pass
abbrev pub ApartFrom : Meaning → (ℕ → Bool) → List Row → List Bool → Type 0
ApartFrom m passes rows left = (d : ℕ) → d < length left → (get_or left d false && not (in_place m rows d)) ≡ passes d

module _ (m : Meaning) (passes : ℕ → Bool) (rows : List Row) (i : ℕ) (left : List Bool) where
  -- the next row is out
  pub apart_out : i < length rows → (get_or rows i no_row).out ≡ true → ApartFrom m passes (drop i rows) left → ApartFrom m passes (drop (i + 1) rows) left
  apart_out h o a d l =
      let e = at_drop_more (λ xs. in_place m xs d) rows i no_row h in
      let b = a d l in
      grind arith

  -- the next row is in place, and its duties are taken off
  pub apart_in : i < length rows → (get_or rows i no_row).out ≡ false → (after : List Bool) → length after ≡ length left → ((d : ℕ) → d < length after → get_or after d false ≡ (get_or left d false && not (row_covers m (get_or rows i no_row) d))) → ApartFrom m passes (drop i rows) left → ApartFrom m passes (drop (i + 1) rows) after
  apart_in h o after n t a d l =
      let e = at_drop_more (λ xs. in_place m xs d) rows i no_row h in
      let b = a d (omega arith) in
      let u = t d l in
      grind arith

  -- no row is left
  pub apart_all : length rows ≤ i → ApartFrom m passes (drop i rows) left → (d : ℕ) → d < length left → get_or left d false ≡ passes d
  apart_all h a d l =
      let e = at_drop_all (λ xs. in_place m xs d) rows i h in
      let b = a d l in
      grind arith
