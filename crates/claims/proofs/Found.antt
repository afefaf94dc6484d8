-- Whether a search finds something: from what passes the test, and back.
use Rattle.std.proofs.Common.{◌≡◌, ℕ, ◌<◌, Bool, true, false, is_some, Some, None, Option, sym, refl, ap}
use Rattle.std.proofs.lemmas.Bool.{both_ways}
use Rattle.cubes.specs.Searching.{NoneBelow, First, least}
use Rattle.cubes.proofs.Searches.{least_first, first_least}

-- where nothing passes, nothing is found
pub none_passes : (n : ℕ) (test : ℕ → Bool) → NoneBelow n test → is_some (least n test) ≡ false
none_passes n test h = sym (ap is_some (first_least n test None h))

-- where nothing is found, nothing passes
pub none_found : (n : ℕ) (test : ℕ → Bool) → is_some (least n test) ≡ false → NoneBelow n test
none_found n test = by (least n test) (least_first n test)
  where
    by : (o : Option ℕ) → First n test o → is_some o ≡ false → NoneBelow n test
    by (Some k) h e = absurd (both_ways _ e refl)
    by None h e = h

-- where something is found, it passes
pub one_found : (n : ℕ) (test : ℕ → Bool) → is_some (least n test) ≡ true → (k : ℕ) × (k < n) × (test k ≡ true)
one_found n test = by (least n test) (least_first n test)
  where
    by : (o : Option ℕ) → First n test o → is_some o ≡ true → (k : ℕ) × (k < n) × (test k ≡ true)
    by (Some k) h e = (k, h.0, h.1)
    by None h e = absurd (both_ways _ refl e)
