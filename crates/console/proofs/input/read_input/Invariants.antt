use Rattle.std.proofs.Common.{◌≤◌, vec_len}
use Rattle.console.proofs.input.read_input.Given as goal

abbrev pub invariant-loop : goal.invariant-loop
invariant-loop l = (vec_len l.bytes ≤ 12800) × (l.filled ≤ vec_len l.bytes)
