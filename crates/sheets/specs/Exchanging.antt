-- Exchange: the row of the slip gets a new cube and is made in place, with its serial and its place in the order; refused
-- where it is not a row that is out, then where an input at or above the goal's is known in the cube, then, with the
-- smallest such duty, where a wanted duty of the old cube is covered by neither the new one nor a row in place; in both
-- the row is in place again as it was.
use Rattle.std.specs.Prelude.{ℕ, cond, ◌||◌}
use Rattle.cubes.specs.declared.cube.Cube.{Cube}
use Rattle.goals.specs.Goals.{Meaning}
use Rattle.sheets.specs.declared.row.Row.{Row}
use Rattle.sheets.specs.declared.refusal.Refusal.TheVariants.{InputAbove}
use Rattle.sheets.specs.Sheets.{State, Outcome, row_of, replaced, row_in, if_out, back, above, unless_lost, lost, row_covers, in_place}

abbrev pub exchange_row : Meaning → State → ℕ → Cube → Row → Outcome
exchange_row m s n c r = unless_lost s n r (lost m (row_covers m r) (λ d. m.covers c d || in_place m s.rows d)) (replaced s.rows n (row_in n c))

abbrev pub exchange : Meaning → State → ℕ → Cube → Outcome
exchange m s n c = if_out s (row_of s.rows n) (λ r. cond (above m c) (back s n r InputAbove) (exchange_row m s n c r))
