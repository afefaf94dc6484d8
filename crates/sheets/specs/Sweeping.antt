-- Sweep: from the last row to the first, each row in place whose wanted duties are all covered by other rows then in place
-- is removed; the answer is how many. As a function, so that runs compute, and as a relation (Swept).
use Rattle.std.specs.Prelude.{◌≡◌, ℕ, ◌+◌, ◌-◌, ◌<◌, Bool, false, cond, not, ◌&&◌, ◌||◌, List, [], ◌∷◌, ◌++◌, length, is_some, ◌==◌, slice_index, slice_index_or}
use Rattle.cubes.specs.Searching.{least}
use Rattle.goals.specs.Goals.{Meaning}
use Rattle.sheets.specs.declared.row.Row.{Row}
use Rattle.sheets.specs.declared.reply.Reply.TheVariants.{Removed}
use Rattle.sheets.specs.Sheets.{State, Outcome, settled, lost, row_covers, in_place}

-- a row is needed beside others where it is out, or where a wanted duty of it is covered by none of them in place
abbrev pub needed : Meaning → Row → List Row → Bool
needed m r others = r.out || is_some (lost m (row_covers m r) (in_place m others))

-- what is left of a row and those that stay after it, where others stand before
abbrev pub keep : Meaning → List Row → Row → List Row → List Row
keep m before r after = cond (needed m r (before ++ after)) (r ∷ after) after

-- what is left of rows that stand after others: the last is looked at first
abbrev pub kept : Meaning → List Row → List Row → List Row
kept m before [] = []
kept m before (r ∷ rs) = keep m before r (kept m (before ++ (r ∷ [])) rs)

abbrev pub sweep : Meaning → State → Outcome
sweep m s = settled s (Removed (length s.rows - length (kept m [] s.rows))) (kept m [] s.rows)

-- the rows that are marked
abbrev pub chosen : List Bool → List Row → List Row
chosen [] rows = []
chosen (b ∷ bs) [] = []
chosen (b ∷ bs) (r ∷ rs) = cond b (r ∷ chosen bs rs) (chosen bs rs)

-- a row stays exactly when it is out, or some wanted duty of it is covered neither by an earlier row in place nor by a
-- later row in place that stays; what is left are the rows that stay, in their order
pub record Swept (m : Meaning) (rows left : List Row) : Type 0 where
  pub stays : List Bool
  pub each : length stays ≡ length rows
  pub rest : left ≡ chosen stays rows
  pub rule : (xs ys : List Row) (r : Row) (bs cs : List Bool) (b : Bool) → rows ≡ xs ++ (r ∷ ys) → stays ≡ bs ++ (b ∷ cs) → length bs ≡ length xs → b ≡ needed m r (xs ++ chosen cs ys)

-- how many rows in place cover the duty
abbrev pub times : Meaning → List Row → ℕ → ℕ
times m [] d = 0
times m (r ∷ rs) d = cond (not r.out && row_covers m r d) 1 0 + times m rs d

-- the counts of a tally are those of the rows
abbrev pub Tallied : Meaning → List Row → List ℕ → Type 0
Tallied m rows counts = (d : ℕ) → d < length counts → slice_index counts d ≡ times m rows d

-- some wanted duty that is marked has the count 1
abbrev pub has_sole : Meaning → List ℕ → List Bool → Bool
has_sole m counts marks = is_some (least (length counts) (λ d. slice_index_or marks d false && (slice_index counts d == 1 && m.wanted d)))
