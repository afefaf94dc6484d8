-- Joined: the duties of one goal, then those of another, up to the most that a goal can have; each part sees its own inputs.
use Rattle.std.specs.Prelude.{ℕ, ◌+◌, ◌-◌, min, max, Bool, cond, ◌&&◌, nat_lt}
use Rattle.goals.specs.Goals.{Meaning, most_duties}

-- a duty below n is asked of the first part, any other of the second by its number there; at and above the most
-- that a goal can have there is none
abbrev pub of_two : ℕ → (ℕ → Bool) → (ℕ → Bool) → ℕ → Bool
of_two n first second d = cond (nat_lt d n) (first d) (nat_lt d most_duties && second (d - n))

abbrev pub joined : Meaning → Meaning → Meaning
joined m n = record {
  inputs = max m.inputs n.inputs;
  duties = min (m.duties + n.duties) most_duties;
  wanted = of_two m.duties m.wanted n.wanted;
  covers = λ c d. of_two m.duties (m.covers c) (n.covers c) d;
}
