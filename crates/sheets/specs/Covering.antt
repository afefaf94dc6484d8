-- Cover: refused where there is no such duty, then where it is not wanted; nothing to do where a row in place covers it;
-- else the smallest vector that covers it is entered, refused where none does, then as entering is.
use Rattle.std.specs.Prelude.{ℕ, cond, not, Some, None, Option, nat_le}
use Rattle.cubes.specs.Cubes.{vector}
use Rattle.cubes.specs.Searching.{least}
use Rattle.goals.specs.Goals.{Meaning, vectors, covered_at}
use Rattle.sheets.specs.declared.reply.Reply.{Reply}
use Rattle.sheets.specs.declared.reply.Reply.TheVariants.{Gave, Already}
use Rattle.sheets.specs.declared.refusal.Refusal.TheVariants.{NoSuchDuty, NotWanted, NotCoverable}
use Rattle.sheets.specs.Sheets.{State, Outcome, refused, settled, in_place}
use Rattle.sheets.specs.Entering.{entry}

-- the reply of a call that covers: the serial of the new row, or that a row in place covers the duty already
abbrev pub covered_reply : Option ℕ → Reply
covered_reply None = Already
covered_reply (Some n) = Gave n

-- the vector with this number as a row, where there is one
abbrev pub enter_vector : Meaning → State → Option ℕ → Outcome
enter_vector m s None = refused s NotCoverable
enter_vector m s (Some v) = entry s (vector m.inputs v)

abbrev pub cover_wanted : Meaning → State → ℕ → Outcome
cover_wanted m s d = cond (in_place m s.rows d) (settled s Already s.rows) (enter_vector m s (least (vectors m) (covered_at m d)))

abbrev pub cover : Meaning → State → ℕ → Outcome
cover m s d = cond (nat_le m.duties d) (refused s NoSuchDuty) (cond (not (m.wanted d)) (refused s NotWanted) (cover_wanted m s d))
