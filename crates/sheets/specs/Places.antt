-- Where a row stands: a search for a serial is promised by this.
use Rattle.std.specs.Prelude.{◌≡◌, ℕ, ◌<◌, true, false, List, length, get_or, Some, None, Ok, Err, Option, Result, ◌≢◌, slice_index_or, slice_set, IfSome}
use Rattle.std.specs.List.{remove as removed}
use Rattle.sheets.specs.Sheets.{row_of, replaced, without, no_row}
use Rattle.sheets.specs.declared.row.Row.{Row}
use Rattle.sheets.specs.declared.refusal.Refusal.{Refusal}
use Rattle.sheets.specs.declared.refusal.Refusal.TheVariants.{NotOut}

-- the first row of serial n stands at place i
pub record Stands (rows : List Row) (n i : ℕ) : Type 0 where
  pub within : i < length rows
  pub before : (k : ℕ) (d : Row) → k < i → (get_or rows k d).serial ≢ n
  pub here : (d : Row) → (get_or rows i d).serial ≡ n
  pub row : (d : Row) → row_of rows n ≡ Some (slice_index_or rows i d)
  pub change : (x : Row) → replaced rows n x ≡ slice_set rows i x
  pub remove : without rows n ≡ removed rows i

abbrev pub Found : List Row → ℕ → Option ℕ → Type 0
Found rows n None = row_of rows n ≡ None
Found rows n (Some i) = Stands rows n i

-- it stands there and is out; else the row of the serial, if there is one, is in place
abbrev pub FoundOut : List Row → ℕ → Result ℕ Refusal → Type 0
FoundOut rows n (Ok i) = Stands rows n i × ((slice_index_or rows i no_row).out ≡ true)
FoundOut rows n (Err e) = (e ≡ NotOut) × IfSome (row_of rows n) (λ r. r.out ≡ false)
