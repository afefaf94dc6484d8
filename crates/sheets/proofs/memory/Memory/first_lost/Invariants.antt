use Rattle.std.proofs.Common.{false, not, ◌&&◌, get_or, drop}
use Rattle.sheets.specs.Sheets.{in_place}
use Rattle.sheets.proofs.Losses.{ApartFrom}
use Rattle.sheets.proofs.memory.Memory.first_lost.Given as goal

abbrev pub invariant-loop-other : goal.invariant-loop-other
invariant-loop-other g l = let m = g.G.Goal.means l.goal in ApartFrom m (λ d. get_or l.initial.left d false && not (in_place m l.rows d)) (drop l.other-index l.rows) l.left
