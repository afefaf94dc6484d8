-- A goal of the tests' own: a hundred duties, all wanted, each covered by every cube.
use Rattle.std.specs.Prelude.{nat_lt}
use Rattle.goals.specs.Goals.{Meaning}

abbrev pub hundred : Meaning
hundred = record {
  inputs = 1;
  duties = 100;
  wanted = λ d. nat_lt d 100;
  covers = λ c d. nat_lt d 100;
}
