use Rattle.std.proofs.Common.{ℕ, ◌<◌, List, length, get_or, vec_items, sym, ap, ◌∙◌, subst, arith}
use Rattle.std.proofs.lemmas.List.{length_push}
use Rattle.cubes.proofs.Filling.{pushed}
use Rattle.findings.specs.declared.finding.Finding.{Finding}
use Rattle.findings.specs.Findings.{Found, no_finding}
use Rattle.findings.proofs.finding_out.find_all.Goals as goal

pub finding-requires : goal.finding-requires
finding-requires g c =
    let h = c.in-Ok.ensures in
    record {
      exists = omega (arith, c.machines-machine-end.ensures, c.loop-machine-test.true);
      labelled = h.2 c.loop-machine.machine (omega (arith, c.machines-machine-end.ensures, c.loop-machine-test.true));
    }

pub loop-machine-preserved : goal.loop-machine-preserved
loop-machine-preserved g c =
    let m = g.D.Device.means c.args.device.now in
    let fs = vec_items c.loop-machine.found in
    let f = c.finding.result in
    let e = c.in_ok-push.ensures.items in
    let n = length_push fs f in
    let here : Found m (length fs) f = subst (λ (k : ℕ). Found m k f) (sym c.loop-machine.invariant.0) c.finding.ensures in
    let all = pushed (Found m) no_finding fs f c.loop-machine.invariant.1 here in (
      ap length e ∙ omega (arith, c.loop-machine.invariant.0),
      subst (λ (xs : List Finding). (k : ℕ) → k < length xs → Found m k (get_or xs k no_finding)) (sym e) all,
    )

pub returns : goal.returns
returns g c =
    let n = c.machines-machine-end.ensures in
    let i = c.loop-machine.invariant.0 in
    (omega arith, λ k h. c.loop-machine.invariant.1 k (omega arith))
