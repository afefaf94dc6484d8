-- Records in which nothing is wrong make up a well-formed card, whose file they are.
use Rattle.std.proofs.Common.{◌≡◌, ℕ, zero, suc, ◌+◌, ◌-◌, ◌*◌, ◌%◌, ◌<◌, ◌≤◌, true, cond, eqb, List, [], ◌∷◌, ◌++◌, length, get_or, take, drop, replicate, Some, None, Option, sym, refl, ap, ◌∙◌, subst, ⊎_elim, add-one, arith, below_more}
use Rattle.std.proofs.lemmas.Bool.Decides.{nat_tests}
use Rattle.std.proofs.lemmas.Bool.{and_parts, eqb-true, ltb-true, leb-true, cases_lt}
use Rattle.std.proofs.lemmas.List.{length-take, length-drop, get_or-take, get_or-drop, get_or_past, take-append-drop, take-take, drop-take, drop-drop, length_push}
use Rattle.std.specs.Simd.{first_chunks}
use Rattle.boards.specs.declared.parts.Kind.{Kind}
use Rattle.boards.specs.declared.parts.Kind.TheVariants.{And, Or, Nand, Nor, Xor, Xnor, Not, Buf}
use Rattle.boards.specs.declared.parts.Class.{Class}
use Rattle.boards.specs.declared.parts.Class.TheVariants.{Input, Gate as GateRecord, Output, Fault as FaultRecord}
use Rattle.boards.specs.declared.parts.Seen.{Seen}
use Rattle.boards.specs.declared.refusal.Trouble.{Trouble}
use Rattle.boards.specs.declared.refusal.Unread.TheVariants.{Bad}
use Rattle.boards.specs.Cards.{Card, Gate, lines, Sound, pins_fit}
use Rattle.boards.specs.Files.{low, high, pin_bytes, code, file}
use Rattle.boards.specs.Records.{word, words, zeros, class, kind_of, trouble, counts, counted, one_more}
use Rattle.boards.specs.Reading.{records, record_at, UnreadFor}
use Rattle.boards.specs.Scanning.{kind_or, fault_in, with_item, with_record, so_far, Good}
use Rattle.boards.proofs.Packing.{Bytes, low_word, high_word, zeros_all, four_bytes, padded, below_each}
use Rattle.boards.specs.Pins.{few_pins}
use Rattle.boards.proofs.Passing.{Passed, of_class, with_kind}
use Rattle.boards.proofs.Grown.{input_more, gate_more, output_more, fault_more}
use Rattle.boards.proofs.Filed.{input_end, gate_end, output_end, fault_end}

abbrev pub mark_of : Class → ℕ
mark_of Input = 0x49
mark_of GateRecord = 0x47
mark_of Output = 0x4F
mark_of FaultRecord = 0x46

-- a mark that has a class is that class's mark
pub marked : (m : ℕ) (k : Class) → class m ≡ Some k → m ≡ mark_of k
marked m Input e = grind (arith, nat_tests)
marked m GateRecord e = grind (arith, nat_tests)
marked m Output e = grind (arith, nat_tests)
marked m FaultRecord e = grind (arith, nat_tests)

-- a byte that has a kind is that kind's byte
coded : (m : ℕ) (k : Kind) → kind_of m ≡ Some k → m ≡ code k
coded m And e = grind (arith, nat_tests)
coded m Or e = grind (arith, nat_tests)
coded m Nand e = grind (arith, nat_tests)
coded m Nor e = grind (arith, nat_tests)
coded m Xor e = grind (arith, nat_tests)
coded m Xnor e = grind (arith, nat_tests)
coded m Not e = grind (arith, nat_tests)
coded m Buf e = grind (arith, nat_tests)

same_record : (a a' b b' c c' d d' : ℕ) (xs ys : List ℕ) → a ≡ a' → b ≡ b' → c ≡ c' → d ≡ d' → xs ≡ ys → ◌≡◌ {A = List ℕ} (a ∷ (b ∷ (c ∷ (d ∷ xs)))) (a' ∷ (b' ∷ (c' ∷ (d' ∷ ys))))
same_record a a' b b' c c' d d' xs ys p q r s t = cc

stuck_byte : (b : ℕ) → b ≤ 1 → b ≡ cond (eqb b 1) 1 0
stuck_byte zero l = refl
stuck_byte (suc zero) l = refl
stuck_byte (suc (suc b)) l = absurd (omega arith)

abbrev seen : ℕ → ℕ → ℕ → ℕ → Seen
seen i g o f = record { inputs = i; gates = g; outputs = o; faults = f }

-- one record of 16 bytes in which nothing is wrong after a well-formed card
module _ (c : Card) (s : Sound c) (r : List ℕ) (bytes : Bytes r) (sixteen : length r ≡ 16) where
  abbrev field : ℕ
  field = get_or r 1 0

  abbrev named : ℕ
  named = word (get_or r 2 0) (get_or r 3 0)

  twelve : length (drop 4 r) ≡ 12
  twelve = let e = length-drop 4 r in omega arith

  apart : r ≡ get_or r 0 0 ∷ (field ∷ (get_or r 2 0 ∷ (get_or r 3 0 ∷ drop 4 r)))
  apart = four_bytes r (omega arith)

  all_zero : zeros (drop 4 r) ≡ true → drop 4 r ≡ replicate 12 0
  all_zero z = zeros_all (drop 4 r) z ∙ ap (λ n. replicate n 0) twelve

  abbrev Adds : Class → Type 0
  Adds k = Sound (with_item (Some k) c r) × (file (with_item (Some k) c r) ≡ file c ++ r)

  adds_input : get_or r 0 0 ≡ 0x49 → Passed Input (counts c) field named (drop 4 r) → Adds Input
  adds_input m p =
      let g = and_parts (eqb (length c.gates) 0) _ p.ordered in
      let o = and_parts (eqb (length c.outputs) 0) (eqb (length c.faults) 0) g.1 in
      let no-gates = eqb-true _ _ g.0 in
      let z = and_parts (eqb field 0) _ p.zero in
      let y = and_parts (eqb named 0) (zeros (drop 4 r)) z.1 in
      let w : named ≡ 0 = eqb-true named 0 y.0 in (
        input_more c s (ltb-true _ _ p.room) no-gates,
        input_end c.inputs c.gates c.outputs c.faults no-gates (eqb-true _ _ o.0) (eqb-true _ _ o.1)
            ∙ ap (λ x. file c ++ x) (sym (apart ∙ same_record _ 0x49 _ 0 _ 0 _ 0 _ (replicate 12 0) m (eqb-true field 0 z.0) (omega arith) (omega arith) (all_zero y.1))),
      )

  adds_output : get_or r 0 0 ≡ 0x4F → Passed Output (counts c) field named (drop 4 r) → Adds Output
  adds_output m p =
      let z = and_parts (eqb field 0) (zeros (drop 4 r)) p.zero in (
        output_more c s named (ltb-true _ _ p.room) (ltb-true _ _ p.exist),
        output_end c.inputs c.gates c.outputs c.faults named (eqb-true _ _ p.ordered)
            ∙ ap (λ x. file c ++ x) (sym (apart ∙ same_record _ 0x4F _ 0 _ (low named) _ (high named) _ (replicate 12 0) m (eqb-true field 0 z.0) (sym (low_word _ _ (bytes 2))) (sym (high_word _ _ (bytes 2))) (all_zero z.1))),
      )

  adds_fault : get_or r 0 0 ≡ 0x46 → Passed FaultRecord (counts c) field named (drop 4 r) → Adds FaultRecord
  adds_fault m p = (
    fault_more c s (fault_in r) (ltb-true _ _ p.room) (ltb-true _ _ p.exist),
    fault_end c.inputs c.gates c.outputs c.faults (fault_in r)
        ∙ ap (λ x. file c ++ x) (sym (apart ∙ same_record _ 0x46 _ (cond (eqb field 1) 1 0) _ (low named) _ (high named) _ (replicate 12 0) m (stuck_byte field (leb-true _ _ p.fits)) (sym (low_word _ _ (bytes 2))) (sym (high_word _ _ (bytes 2))) (all_zero p.zero))),
  )

  adds_gate : get_or r 0 0 ≡ 0x47 → Passed GateRecord (counts c) field named (drop 4 r) → Adds GateRecord
  adds_gate m p =
      let o = and_parts (eqb (length c.outputs) 0) (eqb (length c.faults) 0) p.ordered in
      let q = with_kind (kind_of field) named p.fits in
      let kind : Kind = q.0 in
      let pins : List ℕ = take named (words (drop 4 r)) in
      let few = few_pins kind named q.2 in
      let d = padded named 6 (drop 4 r) (λ i. let e = get_or-drop 4 r i 0 in let b = bytes (4 + i) in omega arith) (twelve ∙ refl) few.1 p.zero in
      let is-kind : kind_or (kind_of field) ≡ kind = ap kind_or q.1 in
      let g : Gate = record { kind = kind_or (kind_of field); pins = pins } in
      let n : length pins ≡ named = d.0 in (
        gate_more c s g (ltb-true _ _ p.room) (ap (λ k. pins_fit k (length pins)) is-kind ∙ ap (pins_fit kind) n ∙ q.2) (below_each (lines c) pins p.exist),
        gate_end c.inputs c.gates c.outputs c.faults g (eqb-true _ _ o.0) (eqb-true _ _ o.1)
            ∙ ap (λ x. file c ++ x) (sym (apart ∙ same_record _ 0x47 _ (code (kind_or (kind_of field))) _ (low (length pins)) _ (high (length pins)) _ (pin_bytes pins ++ replicate (12 - 2 * length pins) 0) m
            (coded field kind q.1 ∙ ap code (sym is-kind))
            (sym (ap low n ∙ low_word _ _ (bytes 2)))
            (sym (ap high n ∙ high_word _ _ (bytes 2)))
            (d.1 ∙ ap (λ j. pin_bytes pins ++ replicate (12 - 2 * j) 0) (sym n)))),
      )

  adds : (k : Class) → get_or r 0 0 ≡ mark_of k → Passed k (counts c) field named (drop 4 r) → Adds k
  adds Input m p = adds_input m p
  adds GateRecord m p = adds_gate m p
  adds Output m p = adds_output m p
  adds FaultRecord m p = adds_fault m p

  pub one_record : trouble (counts c) r ≡ None → Sound (with_record c r) × (file (with_record c r) ≡ file c ++ r)
  one_record e =
      let q = of_class (class (get_or r 0 0)) (counts c) field named (drop 4 r) e in
      subst (λ (o : Option Class). Sound (with_item o c r) × (file (with_item o c r) ≡ file c ++ r)) (sym q.1) (adds q.0 (marked _ q.0 q.1) q.2)

-- one record more of the front of a file
front_more : (bs : List ℕ) (r : ℕ) → take (16 * suc r) bs ≡ take (16 * r) bs ++ record_at bs r
front_more bs r =
    let e : 16 * suc r ≡ 16 * r + 16 = omega arith in
    ap (λ n. take n bs) e
    ∙ sym (take-append-drop (16 * r) (take (16 * r + 16) bs))
    ∙ ap (λ xs. xs ++ drop (16 * r) (take (16 * r + 16) bs)) (take-take (16 * r) (16 * r + 16) bs (omega arith))
    ∙ ap (λ ys. take (16 * r) bs ++ ys) (drop-take (16 * r) 16 bs)

pub record_bytes : (bs : List ℕ) (r : ℕ) → Bytes bs → Bytes (record_at bs r)
record_bytes bs r b i =
    ⊎_elim
    (λ (l : i < 16). let e = get_or-take 16 (drop (16 * r) bs) i 0 l in let f = get_or-drop (16 * r) bs i 0 in let h = b (16 * r + i) in omega arith)
    (λ (l : 16 ≤ i). let n = length-take 16 (drop (16 * r) bs) in let e = get_or_past (record_at bs r) i 0 (omega arith) in omega arith)
    (cases_lt i 16)

pub record_length : (bs : List ℕ) (r : ℕ) → 16 * suc r ≤ length bs → length (record_at bs r) ≡ 16
record_length bs r h = let e = length-take 16 (drop (16 * r) bs) in let f = length-drop (16 * r) bs in omega arith

-- good records make up a well-formed card, and are its file
pub reached : (bs : List ℕ) → Bytes bs → (r : ℕ) → 16 * r ≤ length bs → Good bs r → Sound (so_far bs r) × (file (so_far bs r) ≡ take (16 * r) bs)
reached bs b zero h good = (record { few_inputs = omega arith; few_lines = omega arith; few_outputs = omega arith; few_faults = omega arith; pin_counts = λ i l. absurd (omega arith); earlier = λ i p l. absurd (omega arith); outputs_exist = λ o l. absurd (omega arith); faults_exist = λ f l. absurd (omega arith) }, refl)
reached bs b (suc r) h good =
    let ih = reached bs b r (omega arith) (λ q l. good q (omega arith)) in
    let one = one_record (so_far bs r) ih.0 (record_at bs r) (record_bytes bs r b) (record_length bs r h) (good r (omega arith)) in
    (one.0, one.1 ∙ ap (λ x. x ++ record_at bs r) ih.1 ∙ sym (front_more bs r))

-- the counts go up with each record
counts_item : (o : Option Class) (c : Card) (r : List ℕ) → counts (with_item o c r) ≡ one_more o (counts c)
counts_item None c r = refl
counts_item (Some Input) c r = refl
counts_item (Some GateRecord) c r = ap (λ n. seen c.inputs n (length c.outputs) (length c.faults)) (length_push c.gates _)
counts_item (Some Output) c r = ap (λ n. seen c.inputs (length c.gates) n (length c.faults)) (length_push c.outputs _)
counts_item (Some FaultRecord) c r = ap (λ n. seen c.inputs (length c.gates) (length c.outputs) n) (length_push c.faults _)

pub counts_more : (c : Card) (r : List ℕ) → counts (with_record c r) ≡ counted (counts c) (get_or r 0 0)
counts_more c r = counts_item (class (get_or r 0 0)) c r

-- the part of the bytes from place 16 r to 16 r + 16 is record r
pub part_is : (bs : List ℕ) (r : ℕ) → take (16 * r + 16 - 16 * r) (drop (16 * r) bs) ≡ record_at bs r
part_is bs r = let e : 16 * r + 16 - 16 * r ≡ 16 = omega arith in rw e

-- the records that the bytes are cut into
cut_at : (n : ℕ) (bs : List ℕ) (r : ℕ) (d : List ℕ) → r < n → get_or (first_chunks 16 n bs) r d ≡ record_at bs r
cut_at zero bs r d h = absurd (omega arith)
cut_at (suc n) bs zero d h = refl
cut_at (suc n) bs (suc r) d h =
    let e : 16 + 16 * r ≡ 16 * suc r = omega arith in
    cut_at n (drop 16 bs) r d (omega arith) ∙ ap (take 16) (drop-drop (16 * r) 16 bs ∙ ap (λ k. drop k bs) e)

pub cut_is : (bs : List ℕ) (cs : List (List ℕ)) (r : ℕ) → cs ≡ first_chunks 16 (records bs) bs → r < records bs → get_or cs r [] ≡ record_at bs r
cut_is bs cs r e h = ap (λ xs. get_or xs r []) e ∙ cut_at (records bs) bs r [] h

module _ (bs : List ℕ) (r : ℕ) (s : Seen) (one : List ℕ) (is : one ≡ record_at bs r) (counted-so-far : s ≡ counts (so_far bs r)) (good : Good bs r) where
  -- one good record more
  pub good_more : (s' : Seen) → (trouble s one ≡ None) × (s' ≡ counted s (get_or one 0 0)) → (s' ≡ counts (so_far bs (r + 1))) × Good bs (r + 1)
  good_more s' e = (
    e.1
        ∙ ap (λ p. counted s (get_or p 0 0)) is
        ∙ ap (λ x. counted x (get_or (record_at bs r) 0 0)) counted-so-far
        ∙ sym (counts_more (so_far bs r) (record_at bs r))
        ∙ ap (λ n. counts (so_far bs n)) (sym (add-one r)),
    below_more _ r good (ap (λ x. trouble x (record_at bs r)) (sym counted-so-far) ∙ ap (trouble s) (sym is) ∙ e.0),
  )

  -- or the first bad one
  pub bad_here : Bytes bs → length bs % 16 ≡ 0 → r < records bs → (t : Trouble) → trouble s one ≡ Some t → UnreadFor bs (Bad t r)
  bad_here b whole there t e =
      let m = reached bs b r (omega arith) good in
      (whole, there, (so_far bs r, m.0, m.1, ap (λ x. trouble x (record_at bs r)) (sym counted-so-far) ∙ ap (trouble s) (sym is) ∙ e))
