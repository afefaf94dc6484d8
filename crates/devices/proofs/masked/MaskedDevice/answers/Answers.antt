use Rattle.std.proofs.Common.{◌&&◌, Bool, sym, ap, ◌∙◌}
use Rattle.cubes.specs.Masks.{has}
use Rattle.cubes.proofs.Words.{has_and}
use Rattle.devices.specs.Widely.{answer_at}
use Rattle.devices.proofs.masked.MaskedDevice.answers.Goals as goal

pub returns : goal.returns
returns g c k h =
    let a = answer_at (g.D.Device.means c.args.self.now.device) c.args.machine c.args.words.now k in
    let mask = c.args.self.now.mask in
    let seen = c.answers-seen.ensures k h in (
      (λ o l. c.kept_words.ensures k o l ∙ ap (λ (b : Bool). b && has mask o) (seen.0 o l) ∙ sym (has_and a.zeros mask o)),
      (λ o l. c.kept_words-2.ensures k o l ∙ ap (λ (b : Bool). b && has mask o) (seen.1 o l) ∙ sym (has_and a.ones mask o)),
    )
