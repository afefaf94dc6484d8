use Rattle.std.proofs.Common.{◌+◌, ◌^◌, cond, sym, ap, ◌∙◌}
use lib.Bits.{bit_or}
use Rattle.std.proofs.lemmas.Nat.{one_shl}
use Rattle.cubes.proofs.Bits.{or_add}
use Rattle.cubes.proofs.wide.with_bit.Goals as goal

pub returns-then-on : goal.returns-then-on
returns-then-on c =
    let m = c.args.number in
    let i = c.args.place in
    ap (bit_or m) (one_shl i 64 c.requires.0) ∙ or_add m i c.requires.1 ∙ ap (λ b. m + cond b (2 ^ i) 0) (sym c.if-on.true)
