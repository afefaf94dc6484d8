use Rattle.std.proofs.Common.{Some, refl, rules, arith}
use Rattle.std.proofs.lemmas.Iterator.{YieldsList-from_range, YieldsList-from_map, items_from_collect}
use Rattle.std.proofs.lemmas.Iterator.Consumers.{YieldsList-at, YieldsList-from_chain}
use Rattle.std.proofs.lemmas.Iterator.Adapters.{YieldsList-from_once}
use Rattle.sheets.specs.declared.call.Call.TheVariants.{Cover, Sweep}
use Rattle.runs.proofs.first.calls_for.Goals as goal

pub returns : goal.returns
returns c =
    items_from_collect _ c.collect.ensures.ran
    (YieldsList-from_chain
    (YieldsList-at c.chain.ensures.first (YieldsList-from_map _ Cover (YieldsList-at c.map.ensures.source (YieldsList-from_range 0 c.args.duties c.args.duties refl (omega arith))) c.map.ensures.closure (λ x r q k. search rules)))
    (YieldsList-from_once (Some Sweep) cc) c.chain.ensures.first_done c.chain.ensures.second_done)
