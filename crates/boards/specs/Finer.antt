-- A value is finer than another where that is unknown or the same. Finer values at the pins make a finer value at the
-- gate, and a refined cube gives finer values to the inputs.
use Rattle.std.specs.Prelude.{◌≡◌, ℕ, Bool, true, false, cond, List, [], ◌∷◌, map, refl}
use Rattle.std.proofs.Common.{ap, ◌∙◌, ⊎_elim}
use Rattle.std.proofs.lemmas.Bool.{cases_eq, cases_Bool, both_ways, or_cases, or_parts, or_left, or_right}
use Rattle.cubes.specs.Masks.{bit}
use Rattle.cubes.specs.Cubes.{Refines}
use Rattle.cubes.specs.declared.cube.Cube.{Cube}
use Rattle.cubes.proofs.Alike.{not_both}
use Rattle.boards.specs.declared.parts.Value.{Value}
use Rattle.boards.specs.declared.parts.Value.TheVariants.{Zero, One, Unknown}
use Rattle.boards.specs.declared.parts.Kind.{Kind}
use Rattle.boards.specs.declared.parts.Kind.TheVariants.{And, Or, Nand, Nor, Xor, Xnor, Not, Buf}
use Rattle.boards.specs.Values.{is_zero, is_one, is_unknown, any, invert, parity, only, gate}
use Rattle.boards.specs.Cards.{given}
use Rattle.boards.specs.Related.{Each, Kept}
use Rattle.boards.specs.Inputs.{given_zero, given_one, given_unknown}

-- the second is finer than the first
pub data Finer : Value → Value → Type 0 where
  more : {w : Value} → Finer Unknown w
  same : {v : Value} → Finer v v

-- a test that an unknown value fails stays passed
pub stays : (p : Value → Bool) → p Unknown ≡ false → {v w : Value} → Finer v w → p v ≡ true → p w ≡ true
stays p u more t = absurd (both_ways _ u t)
stays p u same t = t

any_stays : (p : Value → Bool) → p Unknown ≡ false → (v w : ℕ → Value) (ps : List ℕ) → Each (λ j. Finer (v j) (w j)) ps → any p (map v ps) ≡ true → any p (map w ps) ≡ true
any_stays p u v w [] h t = t
any_stays p u v w (j ∷ ps) h t =
    ⊎_elim
    (λ (e : p (v j) ≡ true). or_left (p (w j)) (any p (map w ps)) (stays p u h.0 e))
    (λ (e : any p (map v ps) ≡ true). or_right (p (w j)) (any p (map w ps)) (any_stays p u v w ps h.1 e))
    (or_cases (p (v j)) (any p (map v ps)) t)

-- known values stay
settled : {v w : Value} → Finer v w → is_unknown v ≡ false → v ≡ w
settled more n = absurd (both_ways true n refl)
settled same n = refl

all_settled : (v w : ℕ → Value) (ps : List ℕ) → Each (λ j. Finer (v j) (w j)) ps → any is_unknown (map v ps) ≡ false → map v ps ≡ map w ps
all_settled v w [] h n = refl
all_settled v w (j ∷ ps) h n =
    let m = or_parts (is_unknown (v j)) (any is_unknown (map v ps)) n in
    ap (λ x. x ∷ map v ps) (settled h.0 m.0) ∙ ap (λ xs. w j ∷ xs) (all_settled v w ps h.1 m.1)

-- what an AND and an OR do: some pin decides, or else some pin is unknown
decided_finer : (p : Value → Bool) → p Unknown ≡ false → (x y : Value) (v w : ℕ → Value) (ps : List ℕ) → Each (λ j. Finer (v j) (w j)) ps →
    Finer (cond (any p (map v ps)) x (cond (any is_unknown (map v ps)) Unknown y)) (cond (any p (map w ps)) x (cond (any is_unknown (map w ps)) Unknown y))
decided_finer p u x y v w ps h =
    ⊎_elim
    (λ (t : any is_unknown (map v ps) ≡ true). ⊎_elim
    (λ (d : any p (map v ps) ≡ true). rw (d, any_stays p u v w ps h d) same)
    (λ (d : any p (map v ps) ≡ false). rw (d, t) more)
    (cases_Bool (any p (map v ps))))
    (λ (n : any is_unknown (map v ps) ≡ false). rw (all_settled v w ps h n) same)
    (cases_Bool (any is_unknown (map v ps)))

parity_finer : (v w : ℕ → Value) (ps : List ℕ) → Each (λ j. Finer (v j) (w j)) ps → Finer (parity (map v ps)) (parity (map w ps))
parity_finer v w ps h =
    ⊎_elim
    (λ (t : any is_unknown (map v ps) ≡ true). rw t more)
    (λ (n : any is_unknown (map v ps) ≡ false). rw (all_settled v w ps h n) same)
    (cases_Bool (any is_unknown (map v ps)))

only_finer : (v w : ℕ → Value) (ps : List ℕ) → Each (λ j. Finer (v j) (w j)) ps → Finer (only (map v ps)) (only (map w ps))
only_finer v w [] h = same
only_finer v w (j ∷ ps) h = h.0

invert_finer : {v w : Value} → Finer v w → Finer (invert v) (invert w)
invert_finer more = more
invert_finer same = same

gate_finer : (kind : Kind) (v w : ℕ → Value) (ps : List ℕ) → Each (λ j. Finer (v j) (w j)) ps → Finer (gate kind (map v ps)) (gate kind (map w ps))
gate_finer And v w ps h = decided_finer is_zero refl Zero One v w ps h
gate_finer Or v w ps h = decided_finer is_one refl One Zero v w ps h
gate_finer Nand v w ps h = invert_finer (decided_finer is_zero refl Zero One v w ps h)
gate_finer Nor v w ps h = invert_finer (decided_finer is_one refl One Zero v w ps h)
gate_finer Xor v w ps h = parity_finer v w ps h
gate_finer Xnor v w ps h = invert_finer (parity_finer v w ps h)
gate_finer Not v w ps h = invert_finer (only_finer v w ps h)
gate_finer Buf v w ps h = only_finer v w ps h

pub finer_kept : Kept Finer
finer_kept = record { at_zero = same; at_one = same; at_gate = λ kind v w ps l h. gate_finer kind v w ps h }

pub given_finer : (a b : Cube) → Refines a b → (i : ℕ) → Finer (given b i) (given a i)
given_finer a b r i =
    ⊎_elim
    (λ (z : bit b.zeros i ≡ 1). rw (← given_zero b i z, ← given_zero a i ((r i).0 z)) same)
    (λ (nz : bit b.zeros i ≡ 1 → ⊥). ⊎_elim
    (λ (o : bit b.ones i ≡ 1). let t = (r i).1 o in rw (← given_one b i nz o, ← given_one a i (λ z. not_both a i z t) t) same)
    (λ (no' : bit b.ones i ≡ 1 → ⊥). rw (← given_unknown b i nz no') more)
    (cases_eq (bit b.ones i) 1))
    (cases_eq (bit b.zeros i) 1)
