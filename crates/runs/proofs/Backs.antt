-- Rows put back one after the other: one more at the end, and the same as calls.
use Rattle.std.proofs.Common.{◌≡◌, ℕ, List, [], ◌∷◌, ◌++◌, map, refl}
use Rattle.goals.specs.Goals.{Meaning}
use Rattle.sheets.specs.Sheets.{State}
use Rattle.sheets.specs.Pulling.{put_back}
use Rattle.sheets.specs.Running.{after}
use Rattle.sheets.specs.declared.call.Call.TheVariants.{PutBack}
use Rattle.runs.specs.Hands.{put_backs}

pub put_backs_push : (s : State) (ns : List ℕ) (n : ℕ) → put_backs s (ns ++ (n ∷ [])) ≡ (put_back (put_backs s ns) n).after
put_backs_push s [] n = refl
put_backs_push s (k ∷ ns) n = put_backs_push (put_back s k).after ns n

pub after_backs : (m : Meaning) (s : State) (ns : List ℕ) → after m s (map PutBack ns) ≡ put_backs s ns
after_backs m s [] = refl
after_backs m s (n ∷ ns) = after_backs m (put_back s n).after ns
