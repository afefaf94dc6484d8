use Rattle.std.proofs.Common.{◌≡◌, ℕ, ◌+◌, ◌*◌, ◌^◌, ◌<◌, ◌≤◌, get_or}
use Rattle.cubes.specs.Masks.{bit}
use Rattle.devices.proofs.widely.lift.Given as goal

abbrev pub invariant-loop-o : goal.invariant-loop-o
invariant-loop-o l =
    ((o : ℕ) → o < l.o → get_or l.words o 0 ≡ get_or l.initial.words o 0 + bit l.mask o * 2 ^ l.k)
    × ((o : ℕ) → l.o ≤ o → get_or l.words o 0 ≡ get_or l.initial.words o 0)
