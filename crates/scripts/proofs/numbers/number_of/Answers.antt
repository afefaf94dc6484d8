use Rattle.std.proofs.Common.{◌≡◌, ◌+◌, ◌-◌, ◌*◌, length, get_or, drop, sym, ap, ◌∙◌, arith}
use Rattle.std.proofs.lemmas.List.{at_drop_more, at_drop_all}
use Rattle.scripts.specs.Numerals.{reads_from}
use Rattle.scripts.proofs.Reading.{reads_more, no_digit, too_large, all_read, not_empty}
use Rattle.scripts.proofs.numbers.number_of.Goals as goal

pub loop-byte-preserved : goal.loop-byte-preserved
loop-byte-preserved c =
    let w = c.args.word.now in
    let i = c.loop-byte.byte-index in (
      c.if-value-ge4294967296.false,
      c.loop-byte.invariant.1 ∙ at_drop_more (reads_from c.loop-byte.value) w i 0 c.loop-byte-test.true
          ∙ reads_more c.loop-byte.value (get_or w i 0) (drop (i + 1) w) c.if-not-is_digit.ensures
          ∙ ap (λ d. reads_from (c.loop-byte.value * 10 + d) (drop (i + 1) w)) (sym c.from.ensures),
    )

pub returns-then-not-is_digit : goal.returns-then-not-is_digit
returns-then-not-is_digit c =
    let w = c.args.word.now in
    let i = c.loop-byte.byte-index in
    let some : length w ≡ 0 → ⊥ = grind arith in
    sym (not_empty w some ∙ c.loop-byte.invariant.1
    ∙ at_drop_more (reads_from c.loop-byte.value) w i 0 c.loop-byte-test.true
    ∙ no_digit c.loop-byte.value (get_or w i 0) (drop (i + 1) w) c.if-not-is_digit.ensures)

pub returns-then-value-ge4294967296 : goal.returns-then-value-ge4294967296
returns-then-value-ge4294967296 c =
    let w = c.args.word.now in
    let i = c.loop-byte.byte-index in
    let n = c.loop-byte.value in
    let some : length w ≡ 0 → ⊥ = grind arith in
    sym (not_empty w some ∙ c.loop-byte.invariant.1
    ∙ at_drop_more (reads_from n) w i 0 c.loop-byte-test.true
    ∙ reads_more n (get_or w i 0) (drop (i + 1) w) c.if-not-is_digit.ensures
    ∙ too_large (n * 10 + (get_or w i 0 - 48)) (drop (i + 1) w) (omega (arith, c.if-value-ge4294967296.true, c.from.ensures)))

pub returns : goal.returns
returns c =
    let w = c.args.word.now in
    let some : length w ≡ 0 → ⊥ = grind arith in
    sym (not_empty w some ∙ c.loop-byte.invariant.1
    ∙ at_drop_all (reads_from c.loop-byte.value) w c.loop-byte.byte-index c.loop-byte-test.false
    ∙ all_read c.loop-byte.value c.loop-byte.invariant.0)
