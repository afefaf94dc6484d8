-- A value is sure where it is not unknown. Sure values at the pins make a sure value at the gate, and a vector gives
-- sure values to all inputs.
use Rattle.std.specs.Prelude.{◌≡◌, ℕ, ◌%◌, ◌^◌, ◌<◌, Bool, true, false, cond, ◌⊎◌, List, [], ◌∷◌, map, length, refl}
use Rattle.std.proofs.Common.{subst, ⊎_elim, inl, inr, arith, mod-lt, pow_pos}
use Rattle.std.proofs.lemmas.Bool.{cases_eq, cond_both, or_from, both_ways}
use Rattle.cubes.specs.Masks.{bit}
use Rattle.cubes.specs.Cubes.{vector}
use Rattle.cubes.proofs.Bits.{bit_rest}
use Rattle.boards.specs.declared.parts.Value.{Value}
use Rattle.boards.specs.declared.parts.Value.TheVariants.{Zero, One, Unknown}
use Rattle.boards.specs.declared.parts.Kind.{Kind}
use Rattle.boards.specs.declared.parts.Kind.TheVariants.{And, Or, Nand, Nor, Xor, Xnor, Not, Buf}
use Rattle.boards.specs.Values.{is_zero, is_one, is_unknown, any, odd_ones, invert, conj, disj, parity, only, gate}
use Rattle.boards.specs.Cards.{given}
use Rattle.boards.specs.Related.{Each, Kept}
use Rattle.boards.specs.Inputs.{given_zero, given_one}

abbrev pub Sure : Value → Type 0
Sure v = is_unknown v ≡ false

pub sure_known : (v : Value) → Sure v → (is_zero v ≡ true) ⊎ (is_one v ≡ true)
sure_known Zero h = inl refl
sure_known One h = inr refl
sure_known Unknown h = absurd (both_ways true h refl)

none_unknown : (v : ℕ → Value) (ps : List ℕ) → Each (λ j. Sure (v j)) ps → any is_unknown (map v ps) ≡ false
none_unknown v [] h = refl
none_unknown v (j ∷ ps) h = or_from (is_unknown (v j)) (any is_unknown (map v ps)) h.0 (none_unknown v ps h.1)

either_sure : (t : Bool) (x y : Value) → Sure x → Sure y → Sure (cond t x y)
either_sure t x y p q = cond_both t x y Sure (λ _. p) (λ _. q)

only_sure : (v : ℕ → Value) (ps : List ℕ) → 0 < length ps → Each (λ j. Sure (v j)) ps → Sure (only (map v ps))
only_sure v [] l h = absurd (omega arith)
only_sure v (j ∷ ps) l h = h.0

invert_sure : (v : Value) → Sure v → Sure (invert v)
invert_sure Zero h = refl
invert_sure One h = refl
invert_sure Unknown h = h

conj_sure : (vs : List Value) → any is_unknown vs ≡ false → Sure (conj vs)
conj_sure vs n = rw n (either_sure (any is_zero vs) Zero One refl refl)

disj_sure : (vs : List Value) → any is_unknown vs ≡ false → Sure (disj vs)
disj_sure vs n = rw n (either_sure (any is_one vs) One Zero refl refl)

parity_sure : (vs : List Value) → any is_unknown vs ≡ false → Sure (parity vs)
parity_sure vs n = rw n (either_sure (odd_ones vs) One Zero refl refl)

gate_sure : (kind : Kind) (v : ℕ → Value) (ps : List ℕ) → 0 < length ps → Each (λ j. Sure (v j)) ps → Sure (gate kind (map v ps))
gate_sure And v ps l h = conj_sure (map v ps) (none_unknown v ps h)
gate_sure Or v ps l h = disj_sure (map v ps) (none_unknown v ps h)
gate_sure Nand v ps l h = invert_sure (conj (map v ps)) (conj_sure (map v ps) (none_unknown v ps h))
gate_sure Nor v ps l h = invert_sure (disj (map v ps)) (disj_sure (map v ps) (none_unknown v ps h))
gate_sure Xor v ps l h = parity_sure (map v ps) (none_unknown v ps h)
gate_sure Xnor v ps l h = invert_sure (parity (map v ps)) (parity_sure (map v ps) (none_unknown v ps h))
gate_sure Not v ps l h = invert_sure (only (map v ps)) (only_sure v ps l h)
gate_sure Buf v ps l h = only_sure v ps l h

pub sure_kept : Kept (λ v _. Sure v)
sure_kept = record { at_zero = refl; at_one = refl; at_gate = λ kind v w ps l h. gate_sure kind v ps l h }

pub given_sure : (n v i : ℕ) → i < n → Sure (given (vector n v) i)
given_sure n v i l =
    let e = bit_rest n (v % 2 ^ n) i (mod-lt v (pow_pos n)) l in
    ⊎_elim
    (λ (z : bit (vector n v).zeros i ≡ 1). subst Sure (given_zero (vector n v) i z) refl)
    (λ (nz : bit (vector n v).zeros i ≡ 1 → ⊥). subst Sure (given_one (vector n v) i nz (omega arith)) refl)
    (cases_eq (bit (vector n v).zeros i) 1)
