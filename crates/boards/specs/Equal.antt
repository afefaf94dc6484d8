-- Equal values at the pins make equal values at the gate, so equal inputs make equal lines.
use Rattle.std.specs.Prelude.{◌≡◌, ℕ, cond, List, [], ◌∷◌, map, ◌==◌, refl}
use Rattle.std.proofs.Common.{ap, ◌∙◌}
use Rattle.cubes.specs.Masks.{bit}
use Rattle.cubes.specs.declared.cube.Cube.{Cube}
use Rattle.boards.specs.declared.parts.Value.{Value}
use Rattle.boards.specs.declared.parts.Value.TheVariants.{Zero, One, Unknown}
use Rattle.boards.specs.Values.{gate}
use Rattle.boards.specs.Cards.{given}
use Rattle.boards.specs.Related.{Each, Kept}

abbrev pub Equal : Value → Value → Type 0
Equal v w = v ≡ w

map_equal : (v w : ℕ → Value) (ps : List ℕ) → Each (λ j. v j ≡ w j) ps → map v ps ≡ map w ps
map_equal v w [] h = refl
map_equal v w (p ∷ ps) h = ap (λ x. x ∷ map v ps) h.0 ∙ ap (λ xs. w p ∷ xs) (map_equal v w ps h.1)

pub equal_kept : Kept Equal
equal_kept = record { at_zero = refl; at_one = refl; at_gate = λ kind v w ps l h. ap (gate kind) (map_equal v w ps h) }

-- an input of which two cubes say the same
pub given_equal : (a b : Cube) (i : ℕ) → bit a.zeros i ≡ bit b.zeros i → bit a.ones i ≡ bit b.ones i → given a i ≡ given b i
given_equal a b i z o = ap (λ n. cond (n == 1) Zero (cond (bit a.ones i == 1) One Unknown)) z ∙ ap (λ n. cond (bit b.zeros i == 1) Zero (cond (n == 1) One Unknown)) o
