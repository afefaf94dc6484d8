-- Strike: the row of the slip is removed; refused where it is not a row that is out, then, with the smallest such duty,
-- where a wanted duty of the row is covered by no row in place, and the row is in place again.
use Rattle.std.specs.Prelude.{ℕ}
use Rattle.goals.specs.Goals.{Meaning}
use Rattle.sheets.specs.Sheets.{State, Outcome, row_of, without, if_out, unless_lost, lost, row_covers, in_place}

abbrev pub strike : Meaning → State → ℕ → Outcome
strike m s n = if_out s (row_of s.rows n) (λ r. unless_lost s n r (lost m (row_covers m r) (in_place m s.rows)) (without s.rows n))
