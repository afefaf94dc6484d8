-- A list that names nothing twice, with one more that it did not name.
use Rattle.std.proofs.Common.{◌≡◌, ℕ, true, false, ◌||◌, eqb, List, [], ◌∷◌, ◌++◌, refl, arith}
use Rattle.std.proofs.lemmas.Bool.Decides.{nat_tests}
use Rattle.goals.specs.Naming.{names, all_once}

names_push : (xs : List ℕ) (d e : ℕ) → names (xs ++ d ∷ []) e ≡ (names xs e || eqb d e)
names_push [] d e = grind arith
names_push (x ∷ xs) d e = let ih = names_push xs d e in grind arith

pub once_push : (xs : List ℕ) (d : ℕ) → all_once xs ≡ true → names xs d ≡ false → all_once (xs ++ d ∷ []) ≡ true
once_push [] d a b = refl
once_push (x ∷ xs) d a b =
    let ih : all_once xs ≡ true → names xs d ≡ false → all_once (xs ++ d ∷ []) ≡ true = once_push xs d in
    let n = names_push xs d x in
    grind (arith, nat_tests)
