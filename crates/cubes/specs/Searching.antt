-- The smallest number that passes a test: what every search through vectors answers.
use Rattle.std.specs.Prelude.{◌≡◌, ℕ, zero, suc, ◌<◌, Bool, true, false, cond, Some, None, Option}

-- no number below n passes the test
abbrev pub NoneBelow : ℕ → (ℕ → Bool) → Type 0
NoneBelow n test = (k : ℕ) → k < n → test k ≡ false

-- k is the smallest number that passes the test, and lies below n
abbrev pub Smallest : ℕ → (ℕ → Bool) → ℕ → Type 0
Smallest n test k = (k < n) × (test k ≡ true) × NoneBelow k test

-- the smallest number below n that passes the test, or none where none does
abbrev pub First : ℕ → (ℕ → Bool) → Option ℕ → Type 0
First n test (Some k) = Smallest n test k
First n test None = NoneBelow n test

-- the same as a function: n where the test is passed and nothing below was found
abbrev pub or_here : Option ℕ → ℕ → Bool → Option ℕ
or_here (Some k) n passes = Some k
or_here None n passes = cond passes (Some n) None

-- the smallest number below n that passes the test
abbrev pub least : ℕ → (ℕ → Bool) → Option ℕ
least zero test = None
least (suc n) test = or_here (least n test) n (test n)

-- what a search through vectors looks for: how many inputs the vectors have, and which of them pass, by their numbers
pub record Sought : Type 0 where
  pub inputs : ℕ
  pub passes : ℕ → Bool
