use Rattle.std.proofs.Common.{◌≡◌, ℕ, ◌+◌, ◌<◌, ◌≤◌, false}
use Rattle.claims.specs.Claims.{duty_at}
use Rattle.claims.proofs.named.Named.next_covered.Given as goal

abbrev pub invariant-loop-beyond : goal.invariant-loop-beyond
invariant-loop-beyond g l = (k : ℕ) → l.from ≤ k → k < l.from + l.beyond → (g.G.Goal.means l.self.goal.now).covers l.cube (duty_at l.self.duties.now k) ≡ false
