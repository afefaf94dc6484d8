-- In the file of a well-formed card nothing is wrong with any record, and together they make up just that card.
use Rattle.std.proofs.Common.{◌≡◌, ℕ, zero, suc, ◌+◌, ◌-◌, ◌*◌, ◌<◌, ◌≤◌, Bool, true, false, cond, eqb, leb, List, [], ◌∷◌, ◌++◌, length, get_or, take, drop, replicate, None, sym, refl, ap, ◌∙◌, subst, ⊎_elim, append_assoc, add-one, arith}
use Rattle.std.proofs.lemmas.Bool.{cases_lt, lt-ltb}
use Rattle.std.proofs.lemmas.List.{length-append, length-drop, length-replicate, append-nil, drop-append-le, take-append-le, drop_at, take_all, get_or_at}
use Rattle.boards.specs.declared.parts.Class.TheVariants.{Input, Gate as GateRecord, Output, Fault as FaultRecord}
use Rattle.boards.specs.declared.parts.Fault.{Fault}
use Rattle.boards.specs.Cards.{Card, Gate, card, no_gate, no_fault, Sound, pins_fit}
use Rattle.boards.specs.Files.{low, high, pin_bytes, code, input_record, gate_record, output_record, fault_record, file}
use Rattle.boards.specs.Records.{word, words, zeros, all_below, gate_fits, trouble, counts}
use Rattle.boards.specs.Reading.{record_at}
use Rattle.boards.specs.Scanning.{kind_or, with_record, with_gate, so_far, Good}
use Rattle.boards.proofs.Packing.{word_low, length_pin_bytes, pins_back, zeros_after, each_below, kind_back}
use Rattle.boards.specs.Pins.{few_pins}
use Rattle.boards.proofs.Passing.{none_wrong}
use Rattle.boards.proofs.Filed.{input_end, gate_end, output_end, fault_end}

-- n good records that make up a card
pub record Built (bs : List ℕ) (n : ℕ) (c : Card) : Type 0 where
  pub long : length bs ≡ 16 * n
  pub good : Good bs n
  pub is : so_far bs n ≡ c

-- the records of the front of a file hang on the front alone
record_front : (a b : List ℕ) (q : ℕ) → 16 * suc q ≤ length a → record_at (a ++ b) q ≡ record_at a q
record_front a b q h =
    let e = length-drop (16 * q) a in
    ap (take 16) (drop-append-le (16 * q) a b (omega arith)) ∙ take-append-le 16 (drop (16 * q) a) b (omega arith)

pub so_far_front : (a b : List ℕ) (n : ℕ) → 16 * n ≤ length a → so_far (a ++ b) n ≡ so_far a n
so_far_front a b zero h = refl
so_far_front a b (suc n) h = ap (λ c. with_record c (record_at (a ++ b) n)) (so_far_front a b n (omega arith)) ∙ ap (with_record (so_far a n)) (record_front a b n h)

-- one good record more
extend : (a : List ℕ) (n : ℕ) (c : Card) → Built a n c → (r : List ℕ) → length r ≡ 16 → trouble (counts c) r ≡ None → Built (a ++ r) (suc n) (with_record c r)
extend a n c built r sixteen ok =
    let l = length-append a r in
    let long = built.long in
    record {
      long = omega arith;
      good = λ q h. ⊎_elim
          (λ (lt : q < n). let m : 16 * suc q ≤ length a = omega arith in
          ap (λ x. trouble (counts x) (record_at (a ++ r) q)) (so_far_front a r q (omega arith)) ∙ ap (trouble (counts (so_far a q))) (record_front a r q m) ∙ built.good q lt)
          (λ (ge : n ≤ q). let s : n ≡ q = omega arith in
          subst (λ (m : ℕ). trouble (counts (so_far (a ++ r) m)) (record_at (a ++ r) m) ≡ None) s (ap (λ x. trouble (counts x) (record_at (a ++ r) n)) front ∙ ap (trouble (counts c)) last ∙ ok))
          (cases_lt q n);
      is = ap (λ x. with_record x (record_at (a ++ r) n)) front ∙ ap (with_record c) last;
    }
  where
    front : so_far (a ++ r) n ≡ c
    front = let long = built.long in so_far_front a r n (omega arith) ∙ built.is

    last : record_at (a ++ r) n ≡ r
    last = let long = built.long in ap (take 16) (drop_at a r (16 * n) long) ∙ take_all 16 r (omega arith)

-- items of one class, one after the other, each of which passes after those before it
module _ {X : Type 0} (of : List X → Card) (rec : X → List ℕ)
    (end : (xs : List X) (x : X) → file (of (xs ++ (x ∷ []))) ≡ file (of xs) ++ rec x)
    (passes : (xs ys : List X) (x : X) → Sound (of (xs ++ (x ∷ ys))) → (length (rec x) ≡ 16) × (trouble (counts (of xs)) (rec x) ≡ None) × (with_record (of xs) (rec x) ≡ of (xs ++ (x ∷ [])))) where
  items : (todo done : List X) (n : ℕ) → Built (file (of done)) n (of done) → Sound (of (done ++ todo)) → Built (file (of (done ++ todo))) (n + length todo) (of (done ++ todo))
  items [] done n built s =
      let z : n ≡ n + 0 = omega arith in
      subst (λ (xs : List X). Built (file (of xs)) (n + 0) (of xs)) (sym (append-nil done)) (subst (λ (m : ℕ). Built (file (of done)) m (of done)) z built)
  items (x ∷ todo) done n built s =
      let p = passes done todo x s in
      let next : Built (file (of (done ++ (x ∷ [])))) (suc n) (of (done ++ (x ∷ []))) =
      subst (λ (bs : List ℕ). Built bs (suc n) (of (done ++ (x ∷ [])))) (sym (end done x)) (subst (Built (file (of done) ++ rec x) (suc n)) p.2 (extend (file (of done)) n (of done) built (rec x) p.0 p.1)) in
      let e : (done ++ (x ∷ [])) ++ todo ≡ done ++ (x ∷ todo) = append_assoc done (x ∷ []) todo in
      let m : suc n + length todo ≡ n + length (x ∷ todo) = omega arith in
      subst (λ (k : ℕ). Built (file (of (done ++ (x ∷ todo)))) k (of (done ++ (x ∷ todo)))) m
      (subst (λ (xs : List X). Built (file (of xs)) (suc n + length todo) (of xs)) e
      (items todo (done ++ (x ∷ [])) (suc n) next (subst (λ (xs : List X). Sound (of xs)) (sym e) s)))

-- inputs
inputs_built : (n : ℕ) → n ≤ 16 → Built (file (card n [] [] [])) n (card n [] [] [])
inputs_built zero h = record { long = refl; good = λ q l. absurd (omega arith); is = refl }
inputs_built (suc n) h =
    let b = inputs_built n (omega arith) in
    let e : n + 1 ≡ suc n = add-one n in
    let ok : trouble (counts (card n [] [] [])) input_record ≡ None =
    none_wrong Input (counts (card n [] [] [])) 0 0 (replicate 12 0) (record { ordered = refl; room = lt-ltb n 16 (omega arith); fits = refl; exist = refl; zero = refl }) in
    subst (λ (m : ℕ). Built (file (card m [] [] [])) (suc n) (card m [] [] [])) e
    (subst (λ (bs : List ℕ). Built bs (suc n) (card (n + 1) [] [] [])) (sym (input_end n [] [] [] refl refl refl))
    (extend (file (card n [] [] [])) n (card n [] [] []) b input_record refl ok))

-- a gate among others passes after those before it
gate_passes : (n : ℕ) (xs ys : List Gate) (g : Gate) → Sound (card n (xs ++ (g ∷ ys)) [] []) →
    (length (gate_record g) ≡ 16) × (trouble (counts (card n xs [] [])) (gate_record g) ≡ None) × (with_record (card n xs [] []) (gate_record g) ≡ card n (xs ++ (g ∷ [])) [] [])
gate_passes n xs ys g s =
    let l = length-append xs (g ∷ ys) in
    let at : get_or (xs ++ (g ∷ ys)) (length xs) no_gate ≡ g = get_or_at xs g ys no_gate (length xs) refl in
    let ps : List ℕ = g.pins in
    let fit : pins_fit g.kind (length ps) ≡ true = subst (λ (x : Gate). pins_fit x.kind (length x.pins) ≡ true) at (s.pin_counts (length xs) (omega arith)) in
    let early : (p : ℕ) → p < length ps → get_or ps p 0 < n + length xs = subst (λ (x : Gate). (p : ℕ) → p < length x.pins → get_or x.pins p 0 < n + length xs) at (λ p k. s.earlier (length xs) p (omega arith) k) in
    let few = few_pins g.kind (length ps) fit in
    let pad : List ℕ = replicate (12 - 2 * length ps) 0 in
    let rest : List ℕ = pin_bytes ps ++ pad in
    let w : word (low (length ps)) (high (length ps)) ≡ length ps = word_low (length ps) in
    let long : length rest ≡ 12 = let a = length-append (pin_bytes ps) pad in let b = length_pin_bytes ps in let d : length pad ≡ 12 - 2 * length ps = length-replicate (12 - 2 * length ps) 0 in omega (arith, few.1) in
    let few_lines = s.few_lines in (
      omega arith,
      none_wrong GateRecord (counts (card n xs [] [])) (code g.kind) (word (low (length ps)) (high (length ps))) rest
          (record {
            ordered = refl;
            room = lt-ltb (n + length xs) 512 (omega arith);
            fits = ap (λ o. gate_fits o (word (low (length ps)) (high (length ps)))) (kind_back g.kind) ∙ ap (pins_fit g.kind) w ∙ fit;
            exist = ap (λ m. all_below (n + length xs) (take m (words rest))) w ∙ ap (all_below (n + length xs)) (pins_back ps pad) ∙ each_below (n + length xs) ps early;
            zero = ap (λ m. zeros (drop (2 * m) rest)) w ∙ zeros_after ps (12 - 2 * length ps);
          }),
      ap (λ o. with_gate (card n xs [] []) (kind_or o) (take (word (low (length ps)) (high (length ps))) (words rest))) (kind_back g.kind)
          ∙ ap (λ m. with_gate (card n xs [] []) g.kind (take m (words rest))) w
          ∙ ap (with_gate (card n xs [] []) g.kind) (pins_back ps pad),
    )

-- and so does an output
output_passes : (n : ℕ) (gs : List Gate) (xs ys : List ℕ) (o : ℕ) → Sound (card n gs (xs ++ (o ∷ ys)) []) →
    (length (output_record o) ≡ 16) × (trouble (counts (card n gs xs [])) (output_record o) ≡ None) × (with_record (card n gs xs []) (output_record o) ≡ card n gs (xs ++ (o ∷ [])) [])
output_passes n gs xs ys o s =
    let l = length-append xs (o ∷ ys) in
    let at : get_or (xs ++ (o ∷ ys)) (length xs) 0 ≡ o = get_or_at xs o ys 0 (length xs) refl in
    let there : o < n + length gs = let e = s.outputs_exist (length xs) (omega arith) in omega arith in
    let w : word (low o) (high o) ≡ o = word_low o in
    let few = s.few_outputs in (
      refl,
      none_wrong Output (counts (card n gs xs [])) 0 (word (low o) (high o)) (replicate 12 0)
          (record { ordered = refl; room = lt-ltb (length xs) 32 (omega arith); fits = refl; exist = lt-ltb (word (low o) (high o)) (n + length gs) (omega arith); zero = refl }),
      ap (λ m. card n gs (xs ++ (m ∷ [])) []) w,
    )

stuck_back : (b : Bool) → eqb (cond b 1 0) 1 ≡ b
stuck_back true = refl
stuck_back false = refl

abbrev fault_with : ℕ → Bool → Fault
fault_with l b = record { line = l; stuck = b }

-- and a fault
fault_passes : (n : ℕ) (gs : List Gate) (os : List ℕ) (xs ys : List Fault) (f : Fault) → Sound (card n gs os (xs ++ (f ∷ ys))) →
    (length (fault_record f) ≡ 16) × (trouble (counts (card n gs os xs)) (fault_record f) ≡ None) × (with_record (card n gs os xs) (fault_record f) ≡ card n gs os (xs ++ (f ∷ [])))
fault_passes n gs os xs ys f s =
    let l = length-append xs (f ∷ ys) in
    let at : get_or (xs ++ (f ∷ ys)) (length xs) no_fault ≡ f = get_or_at xs f ys no_fault (length xs) refl in
    let there : f.line < n + length gs = subst (λ (x : Fault). x.line < n + length gs) at (s.faults_exist (length xs) (omega arith)) in
    let w : word (low f.line) (high f.line) ≡ f.line = word_low f.line in
    let few = s.few_faults in (
      refl,
      none_wrong FaultRecord (counts (card n gs os xs)) (cond f.stuck 1 0) (word (low f.line) (high f.line)) (replicate 12 0)
          (record {
            ordered = refl;
            room = lt-ltb (length xs) 255 (omega arith);
            fits = elim f.stuck as (λ b. leb (cond b 1 0) 1 ≡ true) [ true ↦ refl | false ↦ refl ];
            exist = lt-ltb (word (low f.line) (high f.line)) (n + length gs) (omega arith);
            zero = refl;
          }),
      ap (λ m. card n gs os (xs ++ (fault_with m (eqb (cond f.stuck 1 0) 1) ∷ []))) w
          ∙ ap (λ b. card n gs os (xs ++ (fault_with f.line b ∷ []))) (stuck_back f.stuck),
    )

-- a well-formed card without its faults, and without its outputs too
no_faults_sound : (n : ℕ) (gs : List Gate) (os : List ℕ) (fs : List Fault) → Sound (card n gs os fs) → Sound (card n gs os [])
no_faults_sound n gs os fs s = record { few_inputs = s.few_inputs; few_lines = s.few_lines; few_outputs = s.few_outputs; few_faults = omega arith; pin_counts = s.pin_counts; earlier = s.earlier; outputs_exist = s.outputs_exist; faults_exist = λ f l. absurd (omega arith) }

no_outputs_sound : (n : ℕ) (gs : List Gate) (os : List ℕ) → Sound (card n gs os []) → Sound (card n gs [] [])
no_outputs_sound n gs os s = record { few_inputs = s.few_inputs; few_lines = s.few_lines; few_outputs = omega arith; few_faults = omega arith; pin_counts = s.pin_counts; earlier = s.earlier; outputs_exist = λ o l. absurd (omega arith); faults_exist = λ f l. absurd (omega arith) }

-- how many records a card's file has
abbrev pub size : Card → ℕ
size c = c.inputs + length c.gates + length c.outputs + length c.faults

pub recorded : (c : Card) → Sound c → Built (file c) (size c) c
recorded c s =
    let n = c.inputs in
    let gs = c.gates in
    let os = c.outputs in
    let fs = c.faults in
    let s2 = no_faults_sound n gs os fs s in
    let s1 = no_outputs_sound n gs os s2 in
    let b0 = inputs_built n s.few_inputs in
    let b1 = items (λ xs. card n xs [] []) gate_record (λ xs g. gate_end n xs [] [] g refl refl) (gate_passes n) gs [] n b0 s1 in
    let b2 = items (λ xs. card n gs xs []) output_record (λ xs o. output_end n gs xs [] o refl) (output_passes n gs) os [] (n + length gs) b1 s2 in
    items (λ xs. card n gs os xs) fault_record (λ xs f. fault_end n gs os xs f) (fault_passes n gs os) fs [] (n + length gs + length os) b2 s
