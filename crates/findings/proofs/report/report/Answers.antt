use Rattle.std.proofs.Common.{◌≡◌, ℕ, Bool, List, [], ◌++◌, length, get_or, take, Some, None, vec_items, string_bytes, Option, sym, ap, ◌∙◌, subst, arith}
use Rattle.std.specs.List.{flat_map}
use Rattle.std.proofs.lemmas.List.{take_more, flat_map_more, take_all}
use Rattle.cubes.specs.Searching.{First}
use Rattle.devices.specs.Devices.{Meaning, Lawful}
use Rattle.devices.specs.Deciding.{vectors}
use Rattle.findings.specs.declared.finding.Finding.{Finding}
use Rattle.findings.specs.Findings.{Found, IsShown, line, no_finding}
use Rattle.findings.proofs.report.report.Goals as goal

-- the smallest vector that passes a test is a vector
is_shown : (m : Meaning) → Lawful m → (n : ℕ) → n ≡ m.inputs → (test : ℕ → Bool) (o : Option ℕ) → First (vectors m) test o → IsShown n o
is_shown m law n e test None h = tt
is_shown m law n e test (Some v) h = rw e (law.few_inputs, h.0)

pub line-requires : goal.line-requires
line-requires g c =
    let d = c.args.device.now in
    let m = g.D.Device.means d in
    let fs = c.deref-finding-items.result.now in
    let k = c.loop-finding.finding-index in
    let h = c.in_ok-found.ensures in
    let same : fs ≡ vec_items c.in_ok-found.found = c.deref-finding-items.ensures.value in
    let l : length fs ≡ m.machines = ap length same ∙ h.0 in
    let found : Found m k (get_or fs k no_finding) = subst (λ (xs : List Finding). Found m k (get_or xs k no_finding)) (sym same) (h.1 k (omega (arith, c.loop-finding-test.true))) in
    is_shown m (g.met.D.Device.lawful d) c.inputs-inputs.result c.inputs-inputs.ensures _ _ found.shown

pub loop-finding-preserved : goal.loop-finding-preserved
loop-finding-preserved g c =
    let fs = c.deref-finding-items.result.now in
    let k = c.loop-finding.finding-index in
    let n = c.inputs-inputs.result in
    let one : string_bytes c.in_ok-line.field-0 ≡ line n (get_or fs k no_finding) = c.in_ok-line.ensures in
    c.in_ok-push_str.ensures.bytes
    ∙ ap (λ bs. string_bytes c.loop-finding.text ++ bs) (c.as_str.ensures.value ∙ one)
    ∙ ap (λ bs. bs ++ line n (get_or fs k no_finding)) c.loop-finding.invariant
    ∙ flat_map_more (line n) [] (take k fs) (get_or fs k no_finding)
    ∙ ap (flat_map (line n)) (sym (take_more fs k no_finding c.loop-finding-test.true))

pub returns : goal.returns
returns g c =
    let m = g.D.Device.means c.args.device.now in
    let fs = c.deref-finding-items.result.now in
    let all = take_all c.loop-finding.finding-index fs c.loop-finding-test.false in (
      vec_items c.in_ok-found.found,
      c.in_ok-found.ensures,
      c.loop-finding.invariant
          ∙ ap (flat_map (line c.inputs-inputs.result)) (all ∙ c.deref-finding-items.ensures.value)
          ∙ ap (λ n. flat_map (line n) (vec_items c.in_ok-found.found)) c.inputs-inputs.ensures,
    )
