use Rattle.std.proofs.Common.{◌≡◌, ◌<◌, drop}
use Rattle.scripts.specs.Numerals.{reads_from}
use Rattle.scripts.proofs.numbers.number_of.Given as goal

abbrev pub invariant-loop-byte : goal.invariant-loop-byte
invariant-loop-byte l = (l.value < 4294967296) × (reads_from 0 l.word ≡ reads_from l.value (drop l.byte-index l.word))
