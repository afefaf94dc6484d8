-- What the writing of bytes keeps true.
use Rattle.std.proofs.Common.{◌≡◌, ◌+◌, drop}
use Rattle.texts.specs.Texts.{placed}
use Rattle.texts.proofs.writing.put_all.Given as goal

-- writing what is left gives what is to be written
abbrev pub invariant-loop-k : goal.invariant-loop-k
invariant-loop-k l = placed l.text (l.at + l.k) (drop l.k l.bytes) ≡ placed l.initial.text l.at l.bytes
