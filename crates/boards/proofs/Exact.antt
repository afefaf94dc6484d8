-- Bytes are accepted exactly when they are the file of a well-formed card, and they are the file of one card alone.
use Rattle.std.proofs.Common.{◌≡◌, ℕ, ◌*◌, ◌%◌, List, length, take, drop, Some, None, sym, ap, ◌∙◌, subst, arith}
use Rattle.std.proofs.lemmas.List.{take_all, length-take, take-append-drop}
use Rattle.boards.specs.declared.refusal.Unread.{Unread}
use Rattle.boards.specs.declared.refusal.Unread.TheVariants.{NotWhole, Bad}
use Rattle.boards.specs.Cards.{Card, Sound}
use Rattle.boards.specs.Files.{file}
use Rattle.boards.specs.Records.{trouble, counts}
use Rattle.boards.specs.Reading.{records, record_at, UnreadFor}
use Rattle.boards.specs.Scanning.{so_far, Good}
use Rattle.boards.proofs.Packing.{Bytes}
use Rattle.boards.proofs.Accepted.{reached}
use Rattle.boards.proofs.Recorded.{Built, size, recorded, so_far_front}

-- the records of a well-formed card's file
built : (bs : List ℕ) (c : Card) → Sound c → file c ≡ bs → Built bs (records bs) c
built bs c s e =
    let b = subst (λ (xs : List ℕ). Built xs (size c) c) e (recorded c s) in
    let l = b.long in
    let n : size c ≡ records bs = omega arith in
    subst (λ (m : ℕ). Built bs m c) n b

pub accepted : (bs : List ℕ) → Bytes bs → length bs % 16 ≡ 0 → Good bs (records bs) →
    Sound (so_far bs (records bs)) × (file (so_far bs (records bs)) ≡ bs) × ((c : Card) → Sound c → file c ≡ bs → c ≡ so_far bs (records bs))
accepted bs bytes whole good =
    let r = reached bs bytes (records bs) (omega arith) good in
    (r.0, r.1 ∙ take_all (16 * records bs) bs (omega arith), λ c s e. sym (built bs c s e).is)

pub refused : (bs : List ℕ) (e : Unread) → UnreadFor bs e → (c : Card) → Sound c → file c ≡ bs → ⊥
refused bs (NotWhole n) h c s e = let l = (built bs c s e).long in h.0 (omega arith)
refused bs (Bad t r) h c s e =
    let front : List ℕ = take (16 * r) bs in
    let before = h.2 in
    let n = length-take (16 * r) bs in
    let below = h.1 in
    let b : Built front (records front) before.0 = built front before.0 before.1 before.2 in
    let m : records front ≡ r = omega arith in
    let there : so_far bs r ≡ before.0 =
    ap (λ xs. so_far xs r) (sym (take-append-drop (16 * r) bs)) ∙ so_far_front front (drop (16 * r) bs) r (omega arith) ∙ ap (so_far front) (sym m) ∙ b.is in
    let ok : trouble (counts before.0) (record_at bs r) ≡ None = ap (λ x. trouble (counts x) (record_at bs r)) (sym there) ∙ (built bs c s e).good r below in
    let bad : trouble (counts before.0) (record_at bs r) ≡ Some t = before.3 in
    let z : ◌≡◌ {A = ℕ} 0 1 = cc in omega arith
