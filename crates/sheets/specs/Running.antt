-- Lists of calls on a sheet, and what holds of each: no wanted duty that was covered is ever bare again, and right after a
-- sweep no row in place is spare.
use Rattle.std.specs.Prelude.{◌≡◌, ℕ, ◌+◌, ◌<◌, ◌≤◌, true, false, List, [], ◌∷◌, ◌++◌, length, take, Result, slice_index_or}
use Rattle.goals.specs.Goals.{Meaning}
use Rattle.sheets.specs.declared.row.Row.{Row}
use Rattle.sheets.specs.declared.reply.Reply.{Reply}
use Rattle.sheets.specs.declared.refusal.Refusal.{Refusal}
use Rattle.sheets.specs.declared.call.Call.{Call}
use Rattle.sheets.specs.declared.call.Call.TheVariants.{Enter, Cover, Pull, PutBack, Strike, Exchange, Join, Sweep}
use Rattle.sheets.specs.Sheets.{State, Outcome, new, row_covers, covered, in_place}
use Rattle.sheets.specs.Entering.{enter}
use Rattle.sheets.specs.Covering.{cover}
use Rattle.sheets.specs.Pulling.{pull, put_back}
use Rattle.sheets.specs.Striking.{strike}
use Rattle.sheets.specs.Exchanging.{exchange}
use Rattle.sheets.specs.Joining.{join}
use Rattle.sheets.specs.Sweeping.{sweep, Swept}

-- what a call answers and leaves: the rule of each call is in the file of its name
abbrev pub does : Meaning → State → Call → Outcome
does m s (Enter c) = enter m s c
does m s (Cover d) = cover m s d
does m s (Pull n) = pull s n
does m s (PutBack n) = put_back s n
does m s (Strike n) = strike m s n
does m s (Exchange n c) = exchange m s n c
does m s (Join a b) = join s a b
does m s Sweep = sweep m s

-- the state after a list of calls, and the answers of its calls
abbrev pub after : Meaning → State → List Call → State
after m s [] = s
after m s (c ∷ cs) = after m (does m s c).after cs

abbrev pub answers : Meaning → State → List Call → List (Result Reply Refusal)
answers m s [] = []
answers m s (c ∷ cs) = (does m s c).answer ∷ answers m (does m s c).after cs

-- no row is spare: each row in place covers a wanted duty that no other row in place covers
abbrev pub NoneSpare : Meaning → List Row → Type 0
NoneSpare m rows = (xs ys : List Row) (r : Row) → rows ≡ xs ++ (r ∷ ys) → r.out ≡ false → (d : ℕ) × (m.wanted d ≡ true) × (row_covers m r d ≡ true) × (in_place m (xs ++ ys) d ≡ false)

-- the rows after the first i calls, from a new sheet on
abbrev pub rows_after : Meaning → List Call → ℕ → List Row
rows_after m calls i = (after m new (take i calls)).rows

-- what holds of every list of calls from a new sheet on
pub record KeptBy (m : Meaning) (calls : List Call) : Type 0 where
  -- a wanted duty that was covered after some call is covered after every later one, refused calls included
  pub never_bare : (i j d : ℕ) → i ≤ j → m.wanted d ≡ true → covered m (rows_after m calls i) d ≡ true → covered m (rows_after m calls j) d ≡ true
  -- a sweep leaves the rows that it should
  pub swept : (i : ℕ) → i < length calls → slice_index_or calls i Sweep ≡ Sweep → Swept m (rows_after m calls i) (rows_after m calls (i + 1))
  -- right after a sweep no row is spare
  pub none_spare : (i : ℕ) → i < length calls → slice_index_or calls i Sweep ≡ Sweep → NoneSpare m (rows_after m calls (i + 1))

abbrev pub Kept : Meaning → Type 0
Kept m = (calls : List Call) → KeptBy m calls
