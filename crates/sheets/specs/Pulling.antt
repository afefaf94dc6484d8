-- Pull: the row is made out, and its serial is on the slip; refused where there is no such row, then where it is out.
-- Put back: the row of the slip is made in place; refused where the slip's serial is not a row that is out.
use Rattle.std.specs.Prelude.{ℕ, true, false, cond, Some, None, Option}
use Rattle.sheets.specs.declared.row.Row.{Row}
use Rattle.sheets.specs.declared.reply.Reply.TheVariants.{Gave, Done}
use Rattle.sheets.specs.declared.refusal.Refusal.TheVariants.{NoSuchRow, RowOut}
use Rattle.sheets.specs.Sheets.{State, Outcome, refused, settled, row_of, replaced, at_out, if_out}

abbrev pub pull_row : State → ℕ → Option Row → Outcome
pull_row s n None = refused s NoSuchRow
pull_row s n (Some r) = cond r.out (refused s RowOut) (settled s (Gave n) (replaced s.rows n (at_out r true)))

abbrev pub pull : State → ℕ → Outcome
pull s n = pull_row s n (row_of s.rows n)

abbrev pub put_back : State → ℕ → Outcome
put_back s n = if_out s (row_of s.rows n) (λ r. settled s Done (replaced s.rows n (at_out r false)))
