use Rattle.std.proofs.Common.{◌≡◌, ℕ, ◌<◌, length, get_or, vec_items}
use Rattle.findings.specs.Findings.{Found, no_finding}
use Rattle.findings.proofs.finding_out.find_all.Given as goal

abbrev pub invariant-loop-machine : goal.invariant-loop-machine
invariant-loop-machine g l =
    (length (vec_items l.found) ≡ l.machine)
    × ((k : ℕ) → k < length (vec_items l.found) → Found (g.D.Device.means l.device) k (get_or (vec_items l.found) k no_finding))
