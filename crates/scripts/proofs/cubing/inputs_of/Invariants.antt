use Rattle.std.proofs.Common.{◌≡◌}
use Rattle.scripts.specs.Cubing.{inputs_of}
use Rattle.scripts.proofs.cubing.inputs_of.Given as goal

abbrev pub invariant-loop-i : goal.invariant-loop-i
invariant-loop-i l = l.inputs ≡ inputs_of l.letter l.word l.i
