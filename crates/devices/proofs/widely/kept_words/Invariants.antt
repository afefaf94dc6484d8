use Rattle.std.proofs.Common.{◌≡◌, ℕ, ◌<◌, ◌≤◌, ◌&&◌, get_or}
use Rattle.cubes.specs.Masks.{has}
use Rattle.devices.proofs.widely.kept_words.Given as goal

abbrev pub invariant-loop-o : goal.invariant-loop-o
invariant-loop-o l =
    ((o : ℕ) → o < l.o → (k : ℕ) → has (get_or l.word-items o 0) k ≡ (has (get_or l.words o 0) k && has l.mask o))
    × ((o : ℕ) → l.o ≤ o → get_or l.word-items o 0 ≡ get_or l.words o 0)
