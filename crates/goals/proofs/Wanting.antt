-- What the law of goals says of wanted duties.
use Rattle.std.proofs.Common.{◌≡◌, ℕ, ◌<◌, true, inl, inr}
use Rattle.std.proofs.lemmas.Bool.{cases_lt, both_ways}
use Rattle.goals.specs.Goals.{Meaning, Lawful}

-- a wanted duty is one of the goal's
pub wanted_below : (m : Meaning) → Lawful m → (d : ℕ) → m.wanted d ≡ true → d < m.duties
wanted_below m law d w = elim (cases_lt d m.duties) [ inl h ↦ h | inr h ↦ absurd (both_ways _ (law.none_wanted_above d h) w) ]
