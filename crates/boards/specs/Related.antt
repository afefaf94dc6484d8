-- Two simulations of a card, compared line by line: a relation that holds of the inputs, and that stuck lines and
-- gates keep, holds of every line.
use Rattle.std.specs.Prelude.{ℕ, zero, suc, ◌-◌, ◌<◌, ◌≤◌, true, false, cond, List, [], ◌∷◌, map, length, Some, None, Option, ◌==◌, slice_index}
use Rattle.std.proofs.Common.{⊎_elim, arith}
use Rattle.std.proofs.lemmas.Bool.{cases_lt, lt-ltb, le-ltb}
use Rattle.cubes.specs.declared.cube.Cube.{Cube}
use Rattle.boards.specs.declared.parts.Value.{Value}
use Rattle.boards.specs.declared.parts.Value.TheVariants.{Zero, One}
use Rattle.boards.specs.declared.parts.Kind.{Kind}
use Rattle.boards.specs.declared.parts.Fault.{Fault}
use Rattle.boards.specs.Values.{gate}
use Rattle.boards.specs.Cards.{Gate, Card, Sound, lines, gate_at, given, held, stuck_at, by_itself, Consistent}
use Rattle.boards.specs.Pins.{few_pins}

-- what holds of each number of a list
abbrev pub Each : (ℕ → Type 0) → List ℕ → Type 0
Each P [] = Unit {0}
Each P (p ∷ ps) = P p × Each P ps

each : (P : ℕ → Type 0) (ps : List ℕ) → ((i : ℕ) → i < length ps → P (slice_index ps i)) → Each P ps
each P [] h = tt
each P (p ∷ ps) h = (h 0 (omega arith), each P ps (λ i l. h (suc i) (omega arith)))

-- a relation of values that stuck lines and gates keep
pub record Kept (R : Value → Value → Type 0) : Type 0 where
  pub at_zero : R Zero Zero
  pub at_one : R One One
  pub at_gate : (kind : Kind) (v w : ℕ → Value) (ps : List ℕ) → 0 < length ps → Each (λ j. R (v j) (w j)) ps → R (gate kind (map v ps)) (gate kind (map w ps))

held_related : (R : Value → Value → Type 0) → Kept R → (f : Option Fault) (k : ℕ) (x y : Value) → R x y → R (held f k x) (held f k y)
held_related R r None k x y h = h
held_related R r (Some f) k x y h =
    elim (f.line == k) as (λ t. R (cond t (stuck_at f) x) (cond t (stuck_at f) y))
    [ true ↦ elim f.stuck as (λ t. R (cond t One Zero) (cond t One Zero)) [ true ↦ r.at_one | false ↦ r.at_zero ] | false ↦ h ]

-- a line by itself, where the lines before it are related
pub itself_related : (R : Value → Value → Type 0) → Kept R → (c : Card) → Sound c → (a b : Cube) (v w : ℕ → Value) (k : ℕ) → k < lines c →
    (k < c.inputs → R (given a k) (given b k)) → ((j : ℕ) → j < k → R (v j) (w j)) → R (by_itself c a v k) (by_itself c b w k)
itself_related R r c s a b v w k h inputs before =
    ⊎_elim
    (λ (l : k < c.inputs). rw (lt-ltb k c.inputs l) (inputs l))
    (λ (l : c.inputs ≤ k).
    let g : Gate = gate_at c k in
    let i : ℕ = k - c.inputs in
    let in' : i < length c.gates = omega arith in
    rw (le-ltb k c.inputs l)
    (r.at_gate g.kind v w g.pins (few_pins g.kind (length g.pins) (s.pin_counts i in')).0
    (each (λ j. R (v j) (w j)) g.pins (λ p q. before (slice_index g.pins p) (let e = s.earlier i p in' q in omega arith)))))
    (cases_lt k c.inputs)

pub lines_related : (R : Value → Value → Type 0) → Kept R → (c : Card) → Sound c → (f : Option Fault) (a b : Cube) (v w : ℕ → Value) →
    Consistent c f a v → Consistent c f b w → ((i : ℕ) → i < c.inputs → R (given a i) (given b i)) → (k : ℕ) → k < lines c → R (v k) (w k)
lines_related R r c s f a b v w p q inputs k h = below (suc k) (omega arith) k (omega arith)
  where
    below : (n : ℕ) → n ≤ lines c → (j : ℕ) → j < n → R (v j) (w j)
    below zero m j l = absurd (omega arith)
    below (suc n) m j l =
        let before : (i : ℕ) → i < j → R (v i) (w i) = λ i t. below n (omega arith) i (omega arith) in
        rw (p j (omega arith), q j (omega arith))
        (held_related R r f j (by_itself c a v j) (by_itself c b w j) (itself_related R r c s a b v w j (omega arith) (inputs j) before))
