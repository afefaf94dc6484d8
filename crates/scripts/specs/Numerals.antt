-- Decimal numerals: which words are one, and the value of each.
use Rattle.std.specs.Prelude.{ℕ, ◌+◌, ◌-◌, ◌*◌, Bool, cond, ◌&&◌, List, [], ◌∷◌, length, Some, None, Option, ◌==◌, nat_le, nat_lt}
use Rattle.std.specs.List.{list_all}

-- the byte is a digit
abbrev pub digit : ℕ → Bool
digit b = nat_le 48 b && nat_le b 57

-- every byte is a digit
abbrev pub numeral : List ℕ → Bool
numeral bs = list_all digit bs

-- the value of a numeral whose front has the value n
abbrev pub value_from : ℕ → List ℕ → ℕ
value_from n [] = n
value_from n (b ∷ bs) = value_from (n * 10 + (b - 48)) bs

abbrev pub limit : ℕ
limit = 4294967296

-- the value where it fits 32 bits and every byte is a digit, with n the value of the front
abbrev pub reads_from : ℕ → List ℕ → Option ℕ
reads_from n bs = cond (numeral bs && nat_lt (value_from n bs) limit) (Some (value_from n bs)) None

-- the number that a word is; none where it is empty, a byte is no digit, or the value does not fit 32 bits
abbrev pub number_of : List ℕ → Option ℕ
number_of bs = cond (length bs == 0) None (reads_from 0 bs)

-- a number that fits 16 bits
abbrev pub short : Option ℕ → Option ℕ
short None = None
short (Some n) = cond (nat_lt n 65536) (Some n) None

abbrev pub serial_of : List ℕ → Option ℕ
serial_of bs = short (number_of bs)
