use Rattle.std.proofs.Common.{◌≡◌, None, Ok, Err, sym, ap, ◌∙◌, arith}
use Rattle.scripts.specs.Words.{texts, lines_of}
use Rattle.scripts.specs.Scripts.{plan, adds, reads}
use Rattle.scripts.proofs.Adding.{part_at, line_added, line_refused, all_lines}
use Rattle.scripts.proofs.parsing.read_script.Goals as goal

pub loop-i-init : goal.loop-i-init
loop-i-init c =
    ap (λ p. reads (Ok p) 1 (lines_of c.args.text.now)) (sym c.new-script.ensures)
    ∙ ap (reads (Ok (plan c.new-script.result)) 1) (sym (ap texts c.deref-line-items.ensures.value ∙ c.in_ok-lines.ensures))

pub returns-in-Err-NotUnderstood : goal.returns-in-Err-NotUnderstood
returns-in-Err-NotUnderstood c =
    let ps = c.deref-line-items.result.now in
    let i = c.loop-i.i in
    let none : adds (plan c.loop-i.script) (texts c.deref.result.now) ≡ None = rw c.in-Err-NotUnderstood.field-0-is at c.in-Err-NotUnderstood.ensures in
    c.loop-i.invariant ∙ line_refused ps (plan c.loop-i.script) i _ _ _ c.loop-i-test.true (part_at ps i _ c.loop-i-test.true) c.without_return.ensures (ap texts c.deref.ensures.value ∙ c.in_ok-words.ensures) none
    ∙ ap Err (omega arith)

pub loop-i-preserved : goal.loop-i-preserved
loop-i-preserved c =
    let ps = c.deref-line-items.result.now in
    let i = c.loop-i.i in
    c.loop-i.invariant ∙ line_added ps (plan c.loop-i.script) i (plan c.add_line.new.self) _ _ _ c.loop-i-test.true (part_at ps i _ c.loop-i-test.true) c.without_return.ensures (ap texts c.deref.ensures.value ∙ c.in_ok-words.ensures) c.in-Ok.ensures

pub returns : goal.returns
returns c = c.loop-i.invariant ∙ all_lines c.deref-line-items.result.now (plan c.loop-i.script) c.loop-i.i c.loop-i-test.false
