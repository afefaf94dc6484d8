-- What a cube says of an input, by the bits of its masks.
use Rattle.std.specs.Prelude.{◌≡◌, ℕ, ◌≢◌}
use Rattle.std.proofs.lemmas.Bool.{eq-eqb, ne_eqb}
use Rattle.cubes.specs.Masks.{bit}
use Rattle.cubes.specs.declared.cube.Cube.{Cube}
use Rattle.boards.specs.declared.parts.Value.TheVariants.{Zero, One, Unknown}
use Rattle.boards.specs.Cards.{given}

pub given_zero : (x : Cube) (i : ℕ) → bit x.zeros i ≡ 1 → Zero ≡ given x i
given_zero x i h = rw (eq-eqb (bit x.zeros i) 1 h)

pub given_one : (x : Cube) (i : ℕ) → (bit x.zeros i ≢ 1) → bit x.ones i ≡ 1 → One ≡ given x i
given_one x i n h = rw (ne_eqb (bit x.zeros i) 1 n, eq-eqb (bit x.ones i) 1 h)

pub given_unknown : (x : Cube) (i : ℕ) → (bit x.zeros i ≢ 1) → (bit x.ones i ≢ 1) → Unknown ≡ given x i
given_unknown x i n m = rw (ne_eqb (bit x.zeros i) 1 n, ne_eqb (bit x.ones i) 1 m)
