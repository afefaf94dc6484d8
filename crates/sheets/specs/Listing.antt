-- The listing: for each row in place its serial in decimal, a blank, the letters of the goal's inputs, and a line feed.
use Rattle.std.specs.Prelude.{ℕ, not, List, [], ◌∷◌, ◌++◌, map, decimal}
use Rattle.std.specs.List.{range_with_len, filter, flat_map}
use Rattle.cubes.specs.Cubes.{letter_of}
use Rattle.goals.specs.Goals.{Meaning}
use Rattle.sheets.specs.declared.row.Row.{Row}

-- the letter of input i: 0, 1, or X where it is unknown
abbrev pub row_letter : Row → ℕ → ℕ
row_letter r i = letter_of r.zeros r.ones i

abbrev pub row_letters : ℕ → Row → List ℕ
row_letters n r = map (row_letter r) (range_with_len 0 n)

abbrev pub row_line : ℕ → Row → List ℕ
row_line n r = decimal r.serial ++ (32 ∷ (row_letters n r ++ (10 ∷ [])))

-- the lines of the rows in place, in order
abbrev pub lines : ℕ → List Row → List ℕ
lines n rows = flat_map (row_line n) (filter (λ r. not r.out) rows)

abbrev pub listing : Meaning → List Row → List ℕ
listing m rows = lines m.inputs rows
