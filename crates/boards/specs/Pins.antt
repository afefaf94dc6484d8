-- The pins of a gate: how many it has, what AND, OR and XOR make of them when they take them in one by one, and of one pin
-- more.
use Rattle.std.specs.Prelude.{◌≡◌, ℕ, ◌+◌, ◌<◌, ◌≤◌, Bool, true, false, cond, not, ◌&&◌, ◌||◌, List, [], ◌∷◌, ◌++◌, map, length, take, ◌==◌, nat_le, slice_index, refl}
use Rattle.std.proofs.Common.{sym, ap, ◌∙◌, arith}
use Rattle.std.proofs.lemmas.List.{map_more}
use Rattle.std.specs.List.{fold}
use Rattle.std.proofs.Math.Bool.{not-not}
use Rattle.std.proofs.lemmas.Bool.{eqb-true, leb-true, and_parts, false≢true}
use Rattle.boards.specs.declared.parts.Value.{Value}
use Rattle.boards.specs.declared.parts.Value.TheVariants.{Zero, One, Unknown}
use Rattle.boards.specs.declared.parts.Kind.{Kind}
use Rattle.boards.specs.Values.{single, only, is_zero, is_one, is_unknown, any, odd_ones, conj, disj, parity, and2, or2, xor2}
use Rattle.boards.specs.Cards.{read, pins_fit}

by_single : (s : Bool) (n : ℕ) → cond s (n == 1) (nat_le 2 n && nat_le n 6) ≡ true → (0 < n) × (n ≤ 6) × (s ≡ true → n ≡ 1)
by_single true n h = let e = eqb-true n 1 h in (omega arith, omega arith, λ _. e)
by_single false n h =
    let p = and_parts (nat_le 2 n) (nat_le n 6) h in
    let a = leb-true 2 n p.0 in
    let b = leb-true n 6 p.1 in
    (omega arith, omega arith, λ (e : ◌≡◌ {A = Bool} false true). absurd (false≢true e))

-- a gate has at least one pin and at most six, and an inverter or a repeater has one
pub few_pins : (kind : Kind) (n : ℕ) → pins_fit kind n ≡ true → (0 < n) × (n ≤ 6) × (single kind ≡ true → n ≡ 1)
few_pins kind n h = by_single (single kind) n h

-- An AND takes its pins in one by one, from 1: `z` says that one was 0, `u` that one was unknown
conj_from : (z u : Bool) (vs : List Value) → fold and2 (cond z Zero (cond u Unknown One)) vs ≡ cond (z || any is_zero vs) Zero (cond (u || any is_unknown vs) Unknown One)
conj_from true u [] = refl
conj_from false true [] = refl
conj_from false false [] = refl
conj_from true u (v ∷ vs) = conj_from true u vs
conj_from false true (Zero ∷ vs) = conj_from true true vs
conj_from false true (One ∷ vs) = conj_from false true vs
conj_from false true (Unknown ∷ vs) = conj_from false true vs
conj_from false false (Zero ∷ vs) = conj_from true false vs
conj_from false false (One ∷ vs) = conj_from false false vs
conj_from false false (Unknown ∷ vs) = conj_from false true vs

pub conj_fold : (vs : List Value) → fold and2 One vs ≡ conj vs
conj_fold vs = conj_from false false vs

-- and an OR from 0: `o` says that one was 1
disj_from : (o u : Bool) (vs : List Value) → fold or2 (cond o One (cond u Unknown Zero)) vs ≡ cond (o || any is_one vs) One (cond (u || any is_unknown vs) Unknown Zero)
disj_from true u [] = refl
disj_from false true [] = refl
disj_from false false [] = refl
disj_from true u (v ∷ vs) = disj_from true u vs
disj_from false true (Zero ∷ vs) = disj_from false true vs
disj_from false true (One ∷ vs) = disj_from true true vs
disj_from false true (Unknown ∷ vs) = disj_from false true vs
disj_from false false (Zero ∷ vs) = disj_from false false vs
disj_from false false (One ∷ vs) = disj_from true false vs
disj_from false false (Unknown ∷ vs) = disj_from false true vs

pub disj_fold : (vs : List Value) → fold or2 Zero vs ≡ disj vs
disj_fold vs = disj_from false false vs

-- and an XOR from 0: `o` says that the 1s were odd
parity_from : (u o : Bool) (vs : List Value) → fold xor2 (cond u Unknown (cond o One Zero)) vs ≡ cond (u || any is_unknown vs) Unknown (cond (cond o (not (odd_ones vs)) (odd_ones vs)) One Zero)
parity_from true o [] = refl
parity_from false true [] = refl
parity_from false false [] = refl
parity_from true o (v ∷ vs) = parity_from true o vs
parity_from false true (Zero ∷ vs) = parity_from false true vs
parity_from false true (One ∷ vs) = parity_from false false vs ∙ ap (λ b. cond (any is_unknown vs) Unknown (cond b One Zero)) (sym (not-not (odd_ones vs)))
parity_from false true (Unknown ∷ vs) = parity_from true true vs
parity_from false false (Zero ∷ vs) = parity_from false false vs
parity_from false false (One ∷ vs) = parity_from false true vs
parity_from false false (Unknown ∷ vs) = parity_from true false vs

pub parity_fold : (vs : List Value) → fold xor2 Zero vs ≡ parity vs
parity_fold vs = parity_from false false vs

-- the value of the one pin is that of the first
pub only_first : (vs : List Value) (ps : List ℕ) → length ps ≡ 1 → read vs (slice_index ps 0) ≡ only (map (read vs) ps)
only_first vs [] h = absurd (omega arith)
only_first vs (p ∷ ps) h = refl

-- and what one pin more does
any_push : (p : Value → Bool) (vs : List Value) (v : Value) → any p (vs ++ (v ∷ [])) ≡ (any p vs || p v)
any_push p [] v = elim (p v) as (λ b. (b || false) ≡ (false || b)) [ true ↦ refl | false ↦ refl ]
any_push p (x ∷ vs) v = elim (p x) as (λ b. (b || any p (vs ++ (v ∷ []))) ≡ ((b || any p vs) || p v)) [ true ↦ refl | false ↦ any_push p vs v ]

odd_push : (vs : List Value) (v : Value) → odd_ones (vs ++ (v ∷ [])) ≡ cond (is_one v) (not (odd_ones vs)) (odd_ones vs)
odd_push [] v = refl
odd_push (Zero ∷ vs) v = odd_push vs v
odd_push (Unknown ∷ vs) v = odd_push vs v
odd_push (One ∷ vs) v = ap not (odd_push vs v) ∙ elim (is_one v) as (λ b. not (cond b (not (odd_ones vs)) (odd_ones vs)) ≡ cond b (not (not (odd_ones vs))) (not (odd_ones vs))) [ true ↦ refl | false ↦ refl ]

conj_at : (z u : Bool) (v : Value) → cond (z || is_zero v) Zero (cond (u || is_unknown v) Unknown One) ≡ and2 (cond z Zero (cond u Unknown One)) v
conj_at true u v = refl
conj_at false true Zero = refl
conj_at false true One = refl
conj_at false true Unknown = refl
conj_at false false Zero = refl
conj_at false false One = refl
conj_at false false Unknown = refl

pub conj_push : (vs : List Value) (v : Value) → conj (vs ++ (v ∷ [])) ≡ and2 (conj vs) v
conj_push vs v = rw (any_push is_zero vs v, any_push is_unknown vs v) (conj_at (any is_zero vs) (any is_unknown vs) v)

disj_at : (o u : Bool) (v : Value) → cond (o || is_one v) One (cond (u || is_unknown v) Unknown Zero) ≡ or2 (cond o One (cond u Unknown Zero)) v
disj_at true u v = refl
disj_at false true Zero = refl
disj_at false true One = refl
disj_at false true Unknown = refl
disj_at false false Zero = refl
disj_at false false One = refl
disj_at false false Unknown = refl

pub disj_push : (vs : List Value) (v : Value) → disj (vs ++ (v ∷ [])) ≡ or2 (disj vs) v
disj_push vs v = rw (any_push is_one vs v, any_push is_unknown vs v) (disj_at (any is_one vs) (any is_unknown vs) v)

parity_at : (u o : Bool) (v : Value) → cond (u || is_unknown v) Unknown (cond (cond (is_one v) (not o) o) One Zero) ≡ xor2 (cond u Unknown (cond o One Zero)) v
parity_at true o v = refl
parity_at false true Zero = refl
parity_at false true One = refl
parity_at false true Unknown = refl
parity_at false false Zero = refl
parity_at false false One = refl
parity_at false false Unknown = refl

pub parity_push : (vs : List Value) (v : Value) → parity (vs ++ (v ∷ [])) ≡ xor2 (parity vs) v
parity_push vs v = rw (any_push is_unknown vs v, odd_push vs v) (parity_at (any is_unknown vs) (odd_ones vs) v)

-- a loop over the pins that takes in the value of each
pub fold_more : (F : List Value → Value) (step : Value → Value → Value) → ((vs : List Value) (v : Value) → F (vs ++ (v ∷ [])) ≡ step (F vs) v) →
    (vs : List Value) (ps : List ℕ) (i : ℕ) (acc : Value) → i < length ps → acc ≡ F (map (read vs) (take i ps)) → step acc (read vs (slice_index ps i)) ≡ F (map (read vs) (take (i + 1) ps))
fold_more F step push vs ps i acc h e = rw e (sym (ap F (map_more (read vs) ps i 0 h) ∙ push (map (read vs) (take i ps)) (read vs (slice_index ps i))))

-- of one pin an AND makes its value
pub conj_only : (vs : List Value) → length vs ≡ 1 → conj vs ≡ only vs
conj_only [] h = absurd (omega arith)
conj_only (Zero ∷ []) h = refl
conj_only (One ∷ []) h = refl
conj_only (Unknown ∷ []) h = refl
conj_only (v ∷ (w ∷ vs)) h = absurd (omega arith)
