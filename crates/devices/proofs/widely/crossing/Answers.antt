use Rattle.std.proofs.Common.{◌≡◌, ℕ, ◌+◌, get_or, subst, add-one, arith}
use lib.Bits.{bit_and, bit_or}
use Rattle.cubes.specs.Masks.{has}
use Rattle.cubes.specs.Blocks.{Marks}
use Rattle.cubes.proofs.Words.{has_and, has_or}
use Rattle.devices.specs.Widely.{opposed}
use Rattle.devices.specs.declared.wide.WideAnswer.{WideAnswer}
use Rattle.devices.proofs.widely.crossing.Goals as goal

-- one output more
opposed_more : (a b : WideAnswer) (o word k : ℕ) → has word k ≡ opposed a b o k →
    has (bit_or word (bit_or (bit_and (get_or a.zeros o 0) (get_or b.ones o 0)) (bit_and (get_or a.ones o 0) (get_or b.zeros o 0)))) k ≡ opposed a b (o + 1) k
opposed_more a b o word k e =
    let p : ℕ = bit_and (get_or a.zeros o 0) (get_or b.ones o 0) in
    let q : ℕ = bit_and (get_or a.ones o 0) (get_or b.zeros o 0) in
    let here = has_or word (bit_or p q) k in
    let two = has_or p q k in
    let left = has_and (get_or a.zeros o 0) (get_or b.ones o 0) k in
    let right = has_and (get_or a.ones o 0) (get_or b.zeros o 0) k in
    rw (add-one o) cc

pub loop-o-preserved : goal.loop-o-preserved
loop-o-preserved c k h = opposed_more c.args.a.now c.args.b.now c.loop-o.o c.loop-o.word k (c.loop-o.invariant k h)

pub returns : goal.returns
returns c = let s : c.loop-o.o ≡ 32 = omega arith in subst (λ (n : ℕ). Marks (opposed c.args.a.now c.args.b.now n) c.loop-o.word) s c.loop-o.invariant
