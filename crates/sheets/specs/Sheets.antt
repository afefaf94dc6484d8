-- What a sheet holds, which duties its rows cover, and the parts of which each call's answer and effect are made.
use Rattle.std.specs.Prelude.{◌≡◌, ℕ, ◌^◌, ◌<◌, Bool, false, cond, not, ◌&&◌, ◌||◌, List, [], ◌∷◌, length, Some, None, Ok, Err, vec_items, Option, Result, ◌==◌, nat_le, slice_index_or}
use Rattle.std.specs.List.{find, list_any}
use Rattle.cubes.specs.declared.cube.Cube.{Cube}
use Rattle.cubes.specs.Cubes.{of_masks}
use Rattle.cubes.specs.Searching.{least}
use Rattle.goals.specs.Goals.{Meaning}
use Rattle.sheets.specs.declared.row.Row.{Row}
use Rattle.sheets.specs.declared.sheet.Sheet.{Sheet}
use Rattle.sheets.specs.declared.reply.Reply.{Reply}
use Rattle.sheets.specs.declared.reply.Reply.TheVariants.{Gave, Already, Removed, Done}
use Rattle.sheets.specs.declared.refusal.Refusal.{Refusal}
use Rattle.sheets.specs.declared.refusal.Refusal.TheVariants.{InputAbove, SheetFull, SerialsSpent, NoSuchRow, RowOut, NotOut, DutyLeftBare, NotJoinable, NoSuchDuty, NotWanted, NotCoverable}

-- the number of a refusal
abbrev pub number : Refusal → ℕ
number InputAbove = 21
number SheetFull = 22
number SerialsSpent = 23
number NoSuchRow = 24
number RowOut = 25
number NotOut = 26
number (DutyLeftBare d) = 27
number NotJoinable = 28
number NoSuchDuty = 29
number NotWanted = 31
number NotCoverable = 32

-- the number of an answer: a serial, 0 for a duty that is covered already, the count of a sweep, or none
abbrev pub answer_number : Reply → Option ℕ
answer_number (Gave n) = Some n
answer_number Already = Some 0
answer_number (Removed n) = Some n
answer_number Done = None

-- what the calls see of a sheet: its rows in order of entry, and the last serial that was given
pub record State : Type 0 where
  pub rows : List Row
  pub given : ℕ

abbrev pub state : {G : Type 0} → Sheet G → State
state s = record { rows = vec_items s.rows; given = s.given }

-- a new sheet has no rows and has given no serial
abbrev pub new : State
new = record { rows = []; given = 0 }

-- what stands for a row past the end of a list
abbrev pub no_row : Row
no_row = record { serial = 0; zeros = 0; ones = 0; out = false }

-- the cube, where there is one, covers duty d
abbrev pub some_covers : Meaning → Option Cube → ℕ → Bool
some_covers m None d = false
some_covers m (Some c) d = m.covers c d

-- the row's cube covers duty d, whether the row is in place or out
abbrev pub row_covers : Meaning → Row → ℕ → Bool
row_covers m r d = some_covers m (of_masks r.zeros r.ones) d

-- each entry of a list says whether the row covers the duty of its place
abbrev pub RowMarked : Meaning → Row → List Bool → Type 0
RowMarked m r marks = (d : ℕ) → d < length marks → slice_index_or marks d false ≡ row_covers m r d

-- some row, in place or out, covers duty d; a wanted duty of which this is false is bare
abbrev pub covered : Meaning → List Row → ℕ → Bool
covered m rows d = list_any (λ r. row_covers m r d) rows

-- some row in place covers duty d
abbrev pub in_place : Meaning → List Row → ℕ → Bool
in_place m rows d = list_any (λ r. not r.out && row_covers m r d) rows

-- duty d is wanted, was covered and is no more
abbrev pub loses : Meaning → (ℕ → Bool) → (ℕ → Bool) → ℕ → Bool
loses m had has d = m.wanted d && (had d && not (has d))

-- the smallest duty that is lost
abbrev pub lost : Meaning → (ℕ → Bool) → (ℕ → Bool) → Option ℕ
lost m had has = least m.duties (loses m had has)

-- an input at or above the goal's is known in the cube
abbrev pub above : Meaning → Cube → Bool
above m c = nat_le (2 ^ m.inputs) c.zeros || nat_le (2 ^ m.inputs) c.ones

-- the row of a serial; the rows with that row changed; the rows without it
abbrev pub row_of : List Row → ℕ → Option Row
row_of rows n = find (λ r. r.serial == n) rows

abbrev pub replaced : List Row → ℕ → Row → List Row
replaced [] n x = []
replaced (r ∷ rs) n x = cond (r.serial == n) (x ∷ rs) (r ∷ replaced rs n x)

abbrev pub without : List Row → ℕ → List Row
without [] n = []
without (r ∷ rs) n = cond (r.serial == n) rs (r ∷ without rs n)

-- the row made out, or in place
abbrev pub at_out : Row → Bool → Row
at_out r b = record { serial = r.serial; zeros = r.zeros; ones = r.ones; out = b }

-- a row in place with this serial and cube
abbrev pub row_in : ℕ → Cube → Row
row_in n c = record { serial = n; zeros = c.zeros; ones = c.ones; out = false }

-- what a call answers, and the state after it
pub record Outcome : Type 0 where
  pub answer : Result Reply Refusal
  pub after : State

-- refused, and nothing changed
abbrev pub refused : State → Refusal → Outcome
refused s e = record { answer = Err e; after = s }

-- refused, and the row that was out is in place as it was
abbrev pub back : State → ℕ → Row → Refusal → Outcome
back s n r e = record { answer = Err e; after = record { rows = replaced s.rows n (at_out r false); given = s.given } }

-- accepted, with the rows that it leaves; no serial is given
abbrev pub settled : State → Reply → List Row → Outcome
settled s a rows = record { answer = Ok a; after = record { rows = rows; given = s.given } }

-- the row of serial n, if it is out; else the slip is not recognised
abbrev pub if_out : State → Option Row → (Row → Outcome) → Outcome
if_out s None f = refused s NotOut
if_out s (Some r) f = cond r.out (f r) (refused s NotOut)

-- refused with the smallest duty that would be lost, and the row back in place; else settled
abbrev pub unless_lost : State → ℕ → Row → Option ℕ → List Row → Outcome
unless_lost s n r None rows = settled s Done rows
unless_lost s n r (Some d) rows = back s n r (DutyLeftBare d)

-- what a call of the code returned, as the reply of a call
abbrev pub told : {X : Type 0} → (X → Reply) → Result X Refusal → Result Reply Refusal
told f (Ok x) = Ok (f x)
told f (Err e) = Err e
