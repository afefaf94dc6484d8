use Rattle.std.proofs.Common.{rules, ◌≡◌, codes}
use Rattle.std.proofs.lemmas.Slice.Eq.{text_from_reads}
use Rattle.scripts.proofs.lines.verb_of.Goals as goal

pub returns-in-excuse : goal.returns-in-excuse
returns-in-excuse c = let e : c.args.word.now ≡ codes "excuse" = search (rules, text_from_reads) in rw e

pub returns-in-enter : goal.returns-in-enter
returns-in-enter c = let e : c.args.word.now ≡ codes "enter" = search (rules, text_from_reads) in rw e

pub returns-in-cover : goal.returns-in-cover
returns-in-cover c = let e : c.args.word.now ≡ codes "cover" = search (rules, text_from_reads) in rw e

pub returns-in-strike : goal.returns-in-strike
returns-in-strike c = let e : c.args.word.now ≡ codes "strike" = search (rules, text_from_reads) in rw e

pub returns-in-exchange : goal.returns-in-exchange
returns-in-exchange c = let e : c.args.word.now ≡ codes "exchange" = search (rules, text_from_reads) in rw e

pub returns-in-sweep : goal.returns-in-sweep
returns-in-sweep c = let e : c.args.word.now ≡ codes "sweep" = search (rules, text_from_reads) in rw e

pub returns-in-claim : goal.returns-in-claim
returns-in-claim c = let e : c.args.word.now ≡ codes "claim" = search (rules, text_from_reads) in rw e
