use Rattle.std.proofs.Common.{◌≡◌, ℕ, ◌<◌, ◌≤◌, false, ◌&&◌, ltb, get_or}
use Rattle.goals.proofs.joined.clear_from.Given as goal

abbrev pub invariant-loop-d : goal.invariant-loop-d
invariant-loop-d l = ((k : ℕ) → k < l.d → get_or l.marks k false ≡ (ltb k l.from && get_or l.initial.marks k false)) × ((k : ℕ) → l.d ≤ k → get_or l.marks k false ≡ get_or l.initial.marks k false)
