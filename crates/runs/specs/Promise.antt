-- THE PROMISE OVER WHOLE RUNS. It ranges over every goal that keeps the meaning and the law of goals.
use Rattle.std.specs.Prelude.{◌≡◌, ℕ, ◌≤◌, not, List, [], ◌∷◌, ◌++◌, map, length, Ok, Result}
use Rattle.std.specs.List.{range_with_len, filter}
use Rattle.cubes.specs.declared.cube.Cube.{Cube}
use Rattle.goals.specs.Goals.{Meaning}
use Rattle.sheets.specs.declared.row.Row.{Row}
use Rattle.sheets.specs.declared.reply.Reply.{Reply}
use Rattle.sheets.specs.declared.refusal.Refusal.{Refusal}
use Rattle.sheets.specs.declared.call.Call.{Call}
use Rattle.sheets.specs.declared.call.Call.TheVariants.{Cover, PutBack, Sweep}
use Rattle.sheets.specs.Sheets.{State, new}
use Rattle.sheets.specs.Running.{after, answers, KeptBy}
use Rattle.claims.specs.declared.refusal.ClaimRefusal.{ClaimRefusal}
use Rattle.claims.specs.Claims as claims
use Rattle.claims.specs.Bounds.{Complete, Bound}

-- the rows that are in place
abbrev pub placed_rows : List Row → List Row
placed_rows rows = filter (λ r. not r.out) rows

-- what a run of calls over a goal, followed by a claim, answers and leaves
pub record Promise (m : Meaning) (calls : List Call) (claimed : List ℕ) (told : List (Result Reply Refusal)) (left : State) (verdict : Result ℕ ClaimRefusal) : Type 0 where
  -- from the empty sheet on, each call answers and leaves what its rule says
  pub answered : told ≡ answers m new calls
  -- the rows that are still out at the end are put back, by calls like any others, and that is what is left: no row is out
  pub still_out : List ℕ
  pub settled : left ≡ after m new (calls ++ map PutBack still_out)
  pub none_out : placed_rows left.rows ≡ left.rows
  -- no wanted duty that was covered after some call is ever bare after a later one, refused calls included; and right
  -- after each sweep each row in place covers a wanted duty that no other row in place covers
  pub kept : KeptBy m (calls ++ map PutBack still_out)
  -- the claim gets the verdict that the rules give: accepted exactly when it has at most 256 duties, names none twice, each
  -- is wanted and coverable, and no vector covers two; and then every list of cubes that covers all wanted coverable
  -- duties has at least as many cubes as it has duties
  pub judged : verdict ≡ claims.verdict m claimed
  pub bound : Bound m claimed verdict
  -- so where the rows in place are as many as an accepted claim has duties, no sheet that covers all is shorter
  pub shortest : verdict ≡ Ok (length left.rows) → (cubes : List Cube) → Complete m cubes → length left.rows ≤ length cubes

-- the calls for a first sheet: cover each of n duties in order, then sweep
abbrev pub first_calls : ℕ → List Call
first_calls n = map Cover (range_with_len 0 n) ++ (Sweep ∷ [])
