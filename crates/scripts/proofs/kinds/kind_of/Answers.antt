use Rattle.std.proofs.Common.{rules, ◌≡◌, codes}
use Rattle.std.proofs.lemmas.Slice.Eq.{text_from_reads}
use Rattle.scripts.proofs.kinds.kind_of.Goals as goal

pub returns-in-detect : goal.returns-in-detect
returns-in-detect c = let e : c.args.word.now ≡ codes "detect" = search (rules, text_from_reads) in rw e
