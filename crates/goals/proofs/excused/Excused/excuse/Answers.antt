use Rattle.std.proofs.Common.{◌≡◌, false, vec_items, sym, ap, ◌∙◌, arith}
use Rattle.goals.specs.Naming.{names, all_once}
use Rattle.goals.proofs.Onces.{once_push}
use Rattle.goals.proofs.excused.Excused.excuse.Goals as goal

pub invariant_of-self : goal.invariant_of-self
invariant_of-self g c =
    let xs = vec_items c.args.self.now.duties in
    let not_yet : names xs c.args.duty ≡ false = ap (λ ys. names ys c.args.duty) (sym c.as_slice.ensures.value) ∙ sym c.if-is_named.ensures in
    record { few = omega (arith, c.push_reserved.ensures.len, c.len.ensures); room = omega (arith, c.push_reserved.ensures.capacity, c.args.self.now.room); once = ap all_once c.push_reserved.ensures.items ∙ once_push xs c.args.duty c.args.self.now.once not_yet }
