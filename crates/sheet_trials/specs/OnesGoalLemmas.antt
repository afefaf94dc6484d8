-- The law of the goal of these tests rests on this.
use Rattle.std.specs.Prelude.{◌≡◌, ℕ, ◌<◌, ◌≤◌, ◌&&◌, ◌==◌, nat_lt}
use Rattle.std.proofs.Common.{ap, sym, ◌∙◌, ⊎_elim}
use Rattle.std.proofs.lemmas.Bool.{le-ltb, cases_lt, and_left}
use Rattle.cubes.specs.Masks.{bit}
use Rattle.cubes.specs.Cubes.{Agree}
use Rattle.cubes.specs.declared.cube.Cube.{Cube}

pub agree : (a b : Cube) (d : ℕ) → Agree 2 a b → (nat_lt d 2 && bit a.ones d == 1) ≡ (nat_lt d 2 && bit b.ones d == 1)
agree a b d h =
    ⊎_elim
    (λ (l : d < 2). ap (λ n. nat_lt d 2 && n == 1) (h d l).1)
    (λ (l : 2 ≤ d). and_left _ _ (le-ltb d 2 l) ∙ sym (and_left _ _ (le-ltb d 2 l)))
    (cases_lt d 2)
