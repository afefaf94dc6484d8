-- Join: the first row gets every 0 and 1 of both cubes and keeps its serial and its place, and the second is removed;
-- refused where either is no row, then where either is out, then where the serials are equal or an input is 0 in one and
-- 1 in the other.
use Rattle.std.specs.Prelude.{ℕ, cond, ◌||◌, Some, None, Option, ◌==◌, bit_or}
use Rattle.cubes.specs.declared.cube.Cube.{Cube}
use Rattle.cubes.specs.Cubes.{of_masks}
use Rattle.sheets.specs.declared.row.Row.{Row}
use Rattle.sheets.specs.declared.reply.Reply.TheVariants.{Done}
use Rattle.sheets.specs.declared.refusal.Refusal.TheVariants.{NoSuchRow, RowOut, NotJoinable}
use Rattle.sheets.specs.Sheets.{State, Outcome, refused, settled, row_of, replaced, without, row_in}

-- the cube of both, where there is one
abbrev pub join_cube : State → ℕ → ℕ → Option Cube → Outcome
join_cube s a b None = refused s NotJoinable
join_cube s a b (Some c) = settled s Done (without (replaced s.rows a (row_in a c)) b)

abbrev pub join_two : State → ℕ → ℕ → Row → Row → Outcome
join_two s a b x y = cond (a == b) (refused s NotJoinable) (join_cube s a b (of_masks (bit_or x.zeros y.zeros) (bit_or x.ones y.ones)))

abbrev pub join_rows : State → ℕ → ℕ → Option Row → Option Row → Outcome
join_rows s a b None y = refused s NoSuchRow
join_rows s a b (Some x) None = refused s NoSuchRow
join_rows s a b (Some x) (Some y) = cond (x.out || y.out) (refused s RowOut) (join_two s a b x y)

abbrev pub join : State → ℕ → ℕ → Outcome
join s a b = join_rows s a b (row_of s.rows a) (row_of s.rows b)
