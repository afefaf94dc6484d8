use Rattle.std.proofs.Common.{◌≡◌, ◌+◌, drop, Ok}
use Rattle.scripts.specs.Words.{texts}
use Rattle.scripts.specs.Scripts.{plan, reads, script_of}
use Rattle.scripts.proofs.parsing.read_script.Given as goal

abbrev pub invariant-loop-i : goal.invariant-loop-i
invariant-loop-i l = script_of l.text ≡ reads (Ok (plan l.script)) (l.i + 1) (drop l.i (texts l.line-items))
