use Rattle.std.proofs.Common.{ℕ, ◌<◌, ◌≤◌, ⊎_elim, ◌∙◌, arith}
use Rattle.std.proofs.lemmas.Bool.{cases_lt}
use Rattle.devices.specs.Widely.{answer_at}
use Rattle.devices.specs.Devices.{Known}
use Rattle.devices.proofs.Crossings.{told_by_words}
use Rattle.devices.proofs.telling.telling.Goals as goal

pub returns : goal.returns
returns g c k h =
    let m = g.D.Device.means c.args.device.now in
    let law = g.met.D.Device.lawful c.args.device.now in
    let a = answer_at m c.args.i c.args.words.now k in
    let b = answer_at m c.args.j c.args.words.now k in
    let p = c.answers.ensures k h in
    let q = c.answers-2.ensures k h in
    let few : (o : ℕ) → Known a o → o < 32 = λ o known.
    ⊎_elim (λ (l : o < m.outputs). let n = law.few_outputs in omega arith) (λ (l : m.outputs ≤ o). absurd (law.none_above c.args.i _ o l known)) (cases_lt o m.outputs) in
    c.crossing.ensures k h ∙ told_by_words c.answers.result c.answers-2.result a b k p.0 p.1 q.0 q.1 few
