use Rattle.std.proofs.Common.{◌-◌, length, take, drop, sym, ◌∙◌}
use Rattle.scripts.proofs.Adding.{part_at, later_words, no_number, one_number, all_words}
use Rattle.scripts.proofs.claiming.numbers_of.Goals as goal

pub returns-in_default-number_of : goal.returns-in_default-number_of
returns-in_default-number_of c =
    let ws = c.args.words.now in
    let ds = take (length ws - 1) (drop 1 ws) in
    sym (no_number ds _ c.loop-word.word-index c.loop-word.invariant _ c.loop-word-test.true (part_at ds c.loop-word.word-index _ c.loop-word-test.true) c.in_default-number_of.ensures ∙ later_words ws)

pub loop-word-preserved : goal.loop-word-preserved
loop-word-preserved c =
    let ws = c.args.words.now in
    let ds = take (length ws - 1) (drop 1 ws) in
    one_number ds _ c.loop-word.word-index c.loop-word.invariant _ _ _ c.loop-word-test.true (part_at ds c.loop-word.word-index _ c.loop-word-test.true) c.in-Some.ensures c.in_ok-push.ensures.items

pub returns : goal.returns
returns c =
    let ws = c.args.words.now in
    let ds = take (length ws - 1) (drop 1 ws) in
    sym (all_words ds _ c.loop-word.word-index c.loop-word.invariant c.loop-word-test.false ∙ later_words ws)
