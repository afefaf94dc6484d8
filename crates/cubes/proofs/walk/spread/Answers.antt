use Rattle.std.proofs.Common.{◌/◌, ◌^◌, sym, ◌∙◌}
use lib.Bits.{bit_and}
use Rattle.std.proofs.lemmas.Bool.{eq-eqb}
use Rattle.cubes.proofs.Words.{has_low, has_ones}
use Rattle.cubes.proofs.walk.spread.Goals as goal

pub returns-then-number-place-eq1 : goal.returns-then-number-place-eq1
returns-then-number-place-eq1 c k h =
    has_ones 64 k h ∙ sym (eq-eqb (bit_and (c.args.number / 2 ^ c.args.place) 1) 1 c.if-number-place-eq1.true) ∙ has_low c.args.number c.args.place
