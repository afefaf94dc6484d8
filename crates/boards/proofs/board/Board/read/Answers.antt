use Rattle.std.proofs.Common.{◌≡◌, ◌<◌, sym, refl, ap, ◌∙◌, subst, add-one, arith}
use Rattle.std.proofs.lemmas.Result.{err_from_is_err_and}
use Rattle.boards.specs.Cards.{Card, Sound}
use Rattle.boards.specs.Files.{file}
use Rattle.boards.specs.Records.{trouble, counts}
use Rattle.boards.specs.Boards.{card_of}
use Rattle.boards.specs.Reading.{records, record_at}
use Rattle.boards.specs.Scanning.{so_far, with_record}
use Rattle.boards.proofs.Accepted.{cut_is}
use Rattle.boards.proofs.Exact.{accepted, refused}
use Rattle.boards.proofs.board.Board.read.Goals as goal

pub returns-in_err-check_all : goal.returns-in_err-check_all
returns-in_err-check_all c =
    let p = err_from_is_err_and c.from_residual.result c.from_residual.ensures.1 in
    let why = c.in_err-check_all.ensures in
    rw (p.1, p.2) (why, refused c.args.bytes.now _ why, refl)

pub add-requires : goal.add-requires
add-requires c =
    let bs = c.args.bytes.now in
    let r = c.loop-record.record-index in
    let there : r < records bs = omega arith in
    ap (trouble (counts (card_of c.loop-record.self))) (cut_is bs _ r c.as_chunks.ensures.front there) ∙ ap (λ x. trouble (counts x) (record_at bs r)) c.loop-record.invariant ∙ c.in_ok-check_all.ensures.1 r there

pub loop-record-preserved : goal.loop-record-preserved
loop-record-preserved c =
    let bs = c.args.bytes.now in
    let r = c.loop-record.record-index in
    c.add.ensures ∙ ap (with_record (card_of c.loop-record.self)) (cut_is bs _ r c.as_chunks.ensures.front (omega arith)) ∙ ap (λ x. with_record x (record_at bs r)) c.loop-record.invariant ∙ ap (so_far bs) (sym (add-one r))

pub returns : goal.returns
returns c =
    let bs = c.args.bytes.now in
    let h = c.in_ok-check_all.ensures in
    let n : c.loop-record.record-index ≡ records bs = omega arith in
    let is : card_of c.loop-record.self ≡ so_far bs (records bs) = c.loop-record.invariant ∙ ap (so_far bs) n in
    subst (λ (x : Card). Sound x × (file x ≡ bs) × ((c' : Card) → Sound c' → file c' ≡ bs → c' ≡ x)) (sym is) (accepted bs (λ i. (c.type_inv.bytes i).fits) h.0 h.1)
