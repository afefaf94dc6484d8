use Rattle.cubes.specs.Searching.{NoneBelow}
use Rattle.claims.specs.Claims.{named_before}
use Rattle.claims.proofs.named.Named.first_named_before.Given as goal

abbrev pub invariant-loop-place : goal.invariant-loop-place
invariant-loop-place g l = NoneBelow l.place (named_before l.self.duties.now)
