-- The rows whose slips were popped are back, and the slips left are those of the rows still out.
use Rattle.std.proofs.Common.{◌≡◌, vec_items, vec_len}
use Rattle.sheets.specs.Sheets.{state}
use Rattle.runs.specs.Hands.{Ready, Backed}
use Rattle.runs.proofs.bench.Bench.put_all_back.Given as goal

abbrev pub invariant-loop-slip : goal.invariant-loop-slip
invariant-loop-slip g l = Backed (state l.initial.sheet) (state l.sheet) × Ready (state l.sheet) (vec_items l.slips) × (l.sheet.goal ≡ l.initial.sheet.goal)

abbrev pub decreases-loop-slip : goal.decreases-loop-slip
decreases-loop-slip g l = vec_len l.slips
