use Rattle.std.proofs.Common.{length}
use Rattle.claims.specs.Claims.{Earliest}
use Rattle.claims.proofs.Clashes.{Both}
use Rattle.claims.proofs.named.Named.first_clash.Given as goal

abbrev pub invariant-loop-number : goal.invariant-loop-number
invariant-loop-number g l = let ds = l.self.duties.now in Earliest (length ds) (Both (g.G.Goal.means l.self.goal.now) ds l.number) l.best
