-- The slips that a run holds: those of the rows that are out. The inner steps of a run are promised by this.
use Rattle.std.specs.Prelude.{◌≡◌, ℕ, ◌+◌, ◌<◌, ◌≤◌, Bool, true, false, cond, ◌&&◌, List, [], ◌∷◌, length, Some, None, Option, ◌==◌, ◌≢◌}
use Rattle.std.specs.List.{list_any}
use Rattle.sheets.specs.Sheets.{State}
use Rattle.sheets.specs.Pulling.{put_back}
use Rattle.sheets.specs.declared.row.Row.{Row}
use Rattle.sheets.specs.declared.slip.Slip.{Slip}

-- a slip of serial n is in hand
abbrev pub holds : List Slip → ℕ → Bool
holds slips n = list_any (λ p. p.serial == n) slips

-- the slip of serial n is taken out; the others stay
abbrev pub Taken : List Slip → ℕ → List Slip → Option Slip → Type 0
Taken before n after None = (holds before n ≡ false) × (after ≡ before)
Taken before n after (Some p) = (p.serial ≡ n) × (length after + 1 ≡ length before) × ((k : ℕ) → (k ≢ n) → holds after k ≡ holds before k)

-- a row of serial n is out
abbrev pub out_at : List Row → ℕ → Bool
out_at rows n = list_any (λ r. r.out && r.serial == n) rows

-- how many rows have serial n, and how many are out
abbrev pub tally : List Row → ℕ → ℕ
tally [] n = 0
tally (r ∷ rs) n = cond (r.serial == n) 1 0 + tally rs n

abbrev pub outs : List Row → ℕ
outs [] = 0
outs (r ∷ rs) = cond r.out 1 0 + outs rs

-- the slips in hand are those of the rows that are out
pub record Ready (s : State) (slips : List Slip) : Type 0 where
  pub once : (n : ℕ) → tally s.rows n ≤ 1
  pub unused : (n : ℕ) → s.given < n → tally s.rows n ≡ 0
  pub in_hand : (n : ℕ) → out_at s.rows n ≡ true → holds slips n ≡ true
  pub few : length slips ≤ outs s.rows

-- rows put back one after the other
abbrev pub put_backs : State → List ℕ → State
put_backs s [] = s
put_backs s (n ∷ ns) = put_backs (put_back s n).after ns

abbrev pub Backed : State → State → Type 0
Backed s t = (ns : List ℕ) × (t ≡ put_backs s ns)
