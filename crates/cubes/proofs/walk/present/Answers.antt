use Rattle.std.proofs.Common.{◌≡◌, ℕ, ◌+◌, ◌-◌, ◌*◌, ◌%◌, ◌^◌, ◌<◌, ◌≤◌, ltb, sym, ap, ◌∙◌, ⊎_elim, arith}
use Rattle.std.proofs.lemmas.Nat.{one_shl}
use Rattle.std.proofs.lemmas.Bool.{cases_lt, lt-ltb, le-ltb}
use Rattle.cubes.specs.Masks.{has}
use Rattle.cubes.proofs.Words.{has_ones, has_low_ones}
use Rattle.cubes.proofs.walk.present.Goals as goal

pub returns-then-left-ge64 : goal.returns-then-left-ge64
returns-then-left-ge64 c k h =
    let e : (1 * 2 ^ c.args.inputs) % 2 ^ 64 ≡ 2 ^ c.args.inputs = one_shl c.args.inputs 64 (omega (arith, c.requires)) in
    has_ones 64 k h ∙ sym (lt-ltb _ _ (omega (arith, c.saturating_sub-left.ensures)))

-- so many are left from a number on
left_below : (left first count k : ℕ) → left ≡ count - first → ltb k left ≡ ltb (first + k) count
left_below left first count k e =
    ⊎_elim
    (λ (l : k < left). lt-ltb k left l ∙ sym (lt-ltb (first + k) count (omega arith)))
    (λ (l : left ≤ k). le-ltb k left l ∙ sym (le-ltb (first + k) count (omega arith)))
    (cases_lt k left)

pub returns-else-left-ge64 : goal.returns-else-left-ge64
returns-else-left-ge64 c k h =
    let left = c.saturating_sub-left.result in
    let e : (1 * 2 ^ c.args.inputs) % 2 ^ 64 ≡ 2 ^ c.args.inputs = one_shl c.args.inputs 64 (omega (arith, c.requires)) in
    let f : (1 * 2 ^ left) % 2 ^ 64 ≡ 2 ^ left = one_shl left 64 (omega arith) in
    ap (λ x. has (x - 1) k) f ∙ has_low_ones left k ∙ left_below left (64 * c.args.block) (2 ^ c.args.inputs) k (omega (arith, c.saturating_sub-left.ensures))
