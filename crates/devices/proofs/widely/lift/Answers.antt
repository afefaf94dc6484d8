use Rattle.std.proofs.Common.{◌≡◌, ℕ, ◌+◌, ◌*◌, ◌/◌, ◌%◌, ◌^◌, ◌<◌, get_or, ap, ◌∙◌, add_comm, arith}
use lib.Bits.{bit_and, bit_or}
use Rattle.std.proofs.lemmas.List.{get_or-set_other}
use Rattle.std.proofs.lemmas.Nat.{shl_whole, or_shifted, or_comm}
use Rattle.cubes.specs.Masks.{bit}
use Rattle.cubes.proofs.Bits.{bit_two, low_bit}
use Rattle.cubes.proofs.Filling.{filled}
use Rattle.devices.proofs.widely.lift.Goals as goal

-- the word that is written
lifted : (w w₀ m o k x : ℕ) → x ≡ bit_and (m / 2 ^ o) 1 → k < 64 → w ≡ w₀ → w₀ < 2 ^ k → bit_or w ((x * 2 ^ k) % 2 ^ 64) ≡ w₀ + bit m o * 2 ^ k
lifted w w₀ m o k x low h e l =
    let t = bit_two m o in
    ap (λ v. bit_or v ((x * 2 ^ k) % 2 ^ 64)) e
    ∙ ap (λ v. bit_or w₀ ((v * 2 ^ k) % 2 ^ 64)) (low ∙ low_bit m o)
    ∙ ap (bit_or w₀) (shl_whole (bit m o) 1 k 64 t (omega arith))
    ∙ or_comm w₀ (bit m o * 2 ^ k) ∙ or_shifted (bit m o) k w₀ l ∙ add_comm (bit m o * 2 ^ k) w₀

pub loop-o-preserved : goal.loop-o-preserved
loop-o-preserved c =
    let ws = c.loop-o.words in
    let o = c.loop-o.o in
    let ws₀ = c.args.words.now in
    let here = lifted (get_or ws o 0) (get_or ws₀ o 0) c.args.mask o c.args.k c.from.result c.from.ensures c.requires.place (c.loop-o.invariant.1 o (omega arith)) (c.requires.before o (omega arith)) in (
      filled (λ j x. x ≡ get_or ws₀ j 0 + bit c.args.mask j * 2 ^ c.args.k) ws 0 o _ (omega arith) c.loop-o.invariant.0 here,
      (λ j h. get_or-set_other ws o j _ 0 (λ e. omega arith) ∙ c.loop-o.invariant.1 j (omega arith)),
    )
