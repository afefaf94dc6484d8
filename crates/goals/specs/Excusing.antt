-- Excused: a goal some of whose duties are no longer wanted; nothing else of it changes.
use Rattle.std.specs.Prelude.{◌≡◌, ℕ, ◌<◌, ◌≤◌, true, false, not, ◌&&◌, ◌⊎◌, List, [], ◌∷◌, ◌++◌, length, Ok, Err, Result}
use Rattle.goals.specs.Goals.{Meaning}
use Rattle.goals.specs.Naming.{names}
use Rattle.goals.specs.declared.refusal.NotExcused.{NotExcused}
use Rattle.goals.specs.declared.refusal.NotExcused.TheVariants.{NoSuchDuty, TooMany}

-- the number of a refusal
abbrev pub number : NotExcused → ℕ
number NoSuchDuty = 29
number TooMany = 35

abbrev pub excused : Meaning → List ℕ → Meaning
excused m xs = record {
  inputs = m.inputs;
  duties = m.duties;
  wanted = λ d. m.wanted d && not (names xs d);
  covers = m.covers;
}

-- what excusing duty d answers where those of xs are excused, and which are excused then: d as well; or it is
-- refused, first where there is no such duty, then where 64 others are excused already, and nothing changes
abbrev pub Excuses : Meaning → List ℕ → ℕ → List ℕ → Result (Unit {0}) NotExcused → Type 0
Excuses m xs d ys (Ok _) = (d < m.duties) × (((names xs d ≡ true) × (ys ≡ xs)) ⊎ ((names xs d ≡ false) × (length xs < 64) × (ys ≡ xs ++ (d ∷ []))))
Excuses m xs d ys (Err NoSuchDuty) = (m.duties ≤ d) × (ys ≡ xs)
Excuses m xs d ys (Err TooMany) = (d < m.duties) × (names xs d ≡ false) × (64 ≤ length xs) × (ys ≡ xs)
