use Rattle.std.proofs.Common.{◌≡◌, take, string_bytes}
use Rattle.std.specs.List.{flat_map}
use Rattle.findings.specs.Findings.{line}
use Rattle.findings.proofs.report.report.Given as goal

abbrev pub invariant-loop-finding : goal.invariant-loop-finding
invariant-loop-finding g l = string_bytes l.text ≡ flat_map (line l.inputs) (take l.finding-index l.finding-items)
