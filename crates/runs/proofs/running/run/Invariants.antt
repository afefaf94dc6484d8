use Rattle.std.proofs.Common.{◌≡◌, ◌≤◌, length, take, vec_items, vec_len, vec_capacity}
use Rattle.sheets.specs.Sheets.{state, new}
use Rattle.sheets.specs.Running.{after, answers}
use Rattle.runs.proofs.running.run.Given as goal

abbrev pub invariant-loop-call : goal.invariant-loop-call
invariant-loop-call g l =
    let m = g.G.Goal.means l.fn.goal in
    (state l.bench.sheet ≡ after m new (take l.call-index l.calls))
    × (vec_items l.answers ≡ answers m new (take l.call-index l.calls))
    × (l.bench.sheet.goal ≡ l.fn.goal)
    × (length l.calls ≤ vec_capacity l.answers)
    × (vec_len l.answers ≡ l.call-index)
