-- A goal of the tests' own: duty d is covered by a cube in which input d is 1.
use Rattle.std.specs.Prelude.{◌&&◌, ◌==◌, nat_lt}
use Rattle.cubes.specs.Masks.{bit}
use Rattle.goals.specs.Goals.{Meaning}

abbrev pub ones : Meaning
ones = record {
  inputs = 2;
  duties = 2;
  wanted = λ d. nat_lt d 2;
  covers = λ c d. nat_lt d 2 && (bit c.ones d == 1);
}
