use Rattle.std.proofs.Common.{◌≡◌, string_bytes}
use Rattle.cubes.specs.Cubes.{letters}
use Rattle.cubes.proofs.cube.Cube.letters.Given as goal

abbrev pub invariant-loop-input : goal.invariant-loop-input
invariant-loop-input l = string_bytes l.text ≡ letters l.input l.self
