-- The file of a card with one item more is its file with one record more, where no record of a later class stands in it.
use Rattle.std.proofs.Common.{◌≡◌, ℕ, ◌+◌, List, [], ◌∷◌, ◌++◌, length, replicate, sym, ap, ◌∙◌, append_assoc}
use Rattle.std.specs.List.{flat_map}
use Rattle.std.proofs.lemmas.List.{append-nil, flat_map_more, replicate_more, nil_from_length}
use Rattle.boards.specs.declared.parts.Fault.{Fault}
use Rattle.boards.specs.Cards.{Gate, card}
use Rattle.boards.specs.Files.{input_record, gate_record, output_record, fault_record, file}

-- the four parts of a file
abbrev inputs_part : ℕ → List ℕ
inputs_part n = flat_map (λ (_ : ℕ). input_record) (replicate n 0)

abbrev gates_part : List Gate → List ℕ
gates_part gs = flat_map gate_record gs

abbrev outputs_part : List ℕ → List ℕ
outputs_part os = flat_map output_record os

abbrev faults_part : List Fault → List ℕ
faults_part fs = flat_map fault_record fs

-- what is put at the end of the last part is put at the end of the file
end_four : (a b c d r : List ℕ) → a ++ (b ++ (c ++ (d ++ r))) ≡ (a ++ (b ++ (c ++ d))) ++ r
end_four a b c d r = simp append_assoc

-- and so it is with the parts before, where those after them are empty
end_three : (a b c r : List ℕ) → a ++ (b ++ ((c ++ r) ++ [])) ≡ (a ++ (b ++ (c ++ []))) ++ r
end_three a b c r = simp (append-nil, append_assoc)

end_two : (a b r : List ℕ) → a ++ ((b ++ r) ++ []) ≡ (a ++ (b ++ [])) ++ r
end_two a b r = simp (append-nil, append_assoc)

end_one : (a r : List ℕ) → (a ++ r) ++ [] ≡ (a ++ []) ++ r
end_one a r = simp append-nil

pub fault_end : (n : ℕ) (gs : List Gate) (os : List ℕ) (fs : List Fault) (f : Fault) → file (card n gs os (fs ++ (f ∷ []))) ≡ file (card n gs os fs) ++ fault_record f
fault_end n gs os fs f =
    ap (λ d. inputs_part n ++ (gates_part gs ++ (outputs_part os ++ d))) (sym (flat_map_more fault_record [] fs f))
    ∙ end_four (inputs_part n) (gates_part gs) (outputs_part os) (faults_part fs) (fault_record f)

pub output_end : (n : ℕ) (gs : List Gate) (os : List ℕ) (fs : List Fault) (o : ℕ) → length fs ≡ 0 → file (card n gs (os ++ (o ∷ [])) fs) ≡ file (card n gs os fs) ++ output_record o
output_end n gs os fs o none =
    let e : fs ≡ [] = nil_from_length fs none in
    let j = flat_map_more output_record [] os o in
    rw e (ap (λ d. inputs_part n ++ (gates_part gs ++ (d ++ []))) (sym j) ∙ end_three (inputs_part n) (gates_part gs) (outputs_part os) (output_record o))

pub gate_end : (n : ℕ) (gs : List Gate) (os : List ℕ) (fs : List Fault) (g : Gate) → length os ≡ 0 → length fs ≡ 0 → file (card n (gs ++ (g ∷ [])) os fs) ≡ file (card n gs os fs) ++ gate_record g
gate_end n gs os fs g no-outputs no-faults =
    let e : fs ≡ [] = nil_from_length fs no-faults in
    let d : os ≡ [] = nil_from_length os no-outputs in
    let j = flat_map_more gate_record [] gs g in
    rw (e, d) (ap (λ x. inputs_part n ++ (x ++ [])) (sym j) ∙ end_two (inputs_part n) (gates_part gs) (gate_record g))

pub input_end : (n : ℕ) (gs : List Gate) (os : List ℕ) (fs : List Fault) → length gs ≡ 0 → length os ≡ 0 → length fs ≡ 0 → file (card (n + 1) gs os fs) ≡ file (card n gs os fs) ++ input_record
input_end n gs os fs no-gates no-outputs no-faults =
    let e : fs ≡ [] = nil_from_length fs no-faults in
    let d : os ≡ [] = nil_from_length os no-outputs in
    let b : gs ≡ [] = nil_from_length gs no-gates in
    let j = flat_map_more (λ (_ : ℕ). input_record) [] (replicate n 0) 0 in
    let m = replicate_more n 0 in
    rw (e, d, b) (ap (λ xs. flat_map (λ (_ : ℕ). input_record) xs ++ []) (sym m) ∙ ap (λ x. x ++ []) (sym j) ∙ end_one (inputs_part n) input_record)
