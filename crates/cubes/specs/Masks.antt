-- Masks: sets of places, one bit each. Used for the inputs of a cube and for the outputs of an answer.
use Rattle.std.specs.Prelude.{ℕ, zero, suc, ◌+◌, ◌/◌, ◌%◌, ◌^◌, Bool, cond, not, ◌==◌, bit_and}

-- the most inputs that a card can have, and the width of a mask of inputs
abbrev pub most_inputs : ℕ
most_inputs = 16

-- bit i of a mask: 1 where place i is in it, else 0
abbrev pub bit : ℕ → ℕ → ℕ
bit m i = m / 2 ^ i % 2

-- place i is in the mask
abbrev pub has : ℕ → ℕ → Bool
has m i = bit m i == 1

-- some place is in both masks
abbrev pub share : ℕ → ℕ → Bool
share a b = not (bit_and a b == 0)

-- the mask of the places below n that pass a test
abbrev pub mask_of : (ℕ → Bool) → ℕ → ℕ
mask_of p zero = 0
mask_of p (suc n) = mask_of p n + cond (p n) (2 ^ n) 0
