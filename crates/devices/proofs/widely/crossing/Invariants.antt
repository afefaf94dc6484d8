use Rattle.cubes.specs.Blocks.{Marks}
use Rattle.devices.specs.Widely.{opposed}
use Rattle.devices.proofs.widely.crossing.Given as goal

abbrev pub invariant-loop-o : goal.invariant-loop-o
invariant-loop-o l = Marks (opposed l.a l.b l.o) l.word
