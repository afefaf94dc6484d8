-- Enter: the cube as the last row, in place, with the next serial; refused where an input at or above the goal's is
-- known, then at 256 rows, then when serial 65,535 has been given.
use Rattle.std.specs.Prelude.{◌+◌, cond, [], ◌∷◌, ◌++◌, length, Ok, nat_le}
use Rattle.cubes.specs.declared.cube.Cube.{Cube}
use Rattle.goals.specs.Goals.{Meaning}
use Rattle.sheets.specs.declared.reply.Reply.TheVariants.{Gave}
use Rattle.sheets.specs.declared.refusal.Refusal.TheVariants.{InputAbove, SheetFull, SerialsSpent}
use Rattle.sheets.specs.Sheets.{State, Outcome, refused, above, row_in}

-- with the next serial
abbrev pub added : State → Cube → Outcome
added s c = record { answer = Ok (Gave (s.given + 1)); after = record { rows = s.rows ++ (row_in (s.given + 1) c ∷ []); given = s.given + 1 } }

-- where there is room for a row and a serial left
abbrev pub entry : State → Cube → Outcome
entry s c = cond (nat_le 256 (length s.rows)) (refused s SheetFull) (cond (nat_le 65535 s.given) (refused s SerialsSpent) (added s c))

abbrev pub enter : Meaning → State → Cube → Outcome
enter m s c = cond (above m c) (refused s InputAbove) (entry s c)
