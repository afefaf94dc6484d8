-- One more word of a claim, and one more line of a script.
use Rattle.std.proofs.Common.{◌≡◌, ℕ, ◌+◌, ◌-◌, ◌<◌, ◌≤◌, List, [], ◌∷◌, ◌++◌, length, get_or, take, drop, Some, None, Ok, Err, Option, sym, refl, ap, ◌∙◌, append_assoc, append-nil, arith}
use Rattle.std.proofs.lemmas.List.{at_drop_more, at_drop_all, length-map, get_or-map, take_rest, drop-map}
use denote.Bor.{Bor}
use Rattle.scripts.specs.Numerals.{number_of}
use Rattle.scripts.specs.Words.{texts, bare, words_of}
use Rattle.scripts.specs.Lines.{of_one, of_two}
use Rattle.scripts.specs.Scripts.{Plan, all_numbers, adds, found, reads}

abbrev now : Bor (List ℕ) → List ℕ
now p = p.now

-- the bytes of a part, by its place
pub part_at : (ps : List (Bor (List ℕ))) (i : ℕ) (d : Bor (List ℕ)) → i < length ps → (get_or ps i d).now ≡ get_or (texts ps) i []
part_at ps i d h = sym (get_or-map now ps i d [] h)

-- the words after the first
pub later_words : (ps : List (Bor (List ℕ))) → all_numbers (texts (take (length ps - 1) (drop 1 ps))) ≡ all_numbers (drop 1 (texts ps))
later_words ps = ap (λ qs. all_numbers (texts qs)) (take_rest ps 1) ∙ ap all_numbers (sym (drop-map now 1 ps))

both : (xs : List ℕ) (n : ℕ) (o : Option (List ℕ)) → of_one (λ ns. xs ++ ns) (of_one (λ ns. n ∷ ns) o) ≡ of_one (λ ns. (xs ++ (n ∷ [])) ++ ns) o
both xs n None = refl
both xs n (Some ns) = ap Some (sym (append_assoc xs (n ∷ []) ns))

-- the numbers so far, and those of the words from place i on, are the whole
module _ (ps : List (Bor (List ℕ))) (xs : List ℕ) (i : ℕ) (whole : Option (List ℕ)) (so_far : whole ≡ of_one (λ ns. xs ++ ns) (all_numbers (drop i (texts ps)))) where
  -- the next word, as far as it is a number
  word_next : (o : Option ℕ) (w : List ℕ) → i < length ps → w ≡ get_or (texts ps) i [] → o ≡ number_of w → whole ≡ of_one (λ ns. xs ++ ns) (of_two (λ n ns. n ∷ ns) o (all_numbers (drop (i + 1) (texts ps))))
  word_next o w h e q =
      so_far
      ∙ ap (of_one (λ ns. xs ++ ns)) (at_drop_more all_numbers (texts ps) i [] (omega (arith, length-map ps now)))
      ∙ ap (λ x. of_one (λ ns. xs ++ ns) (of_two (λ n ns. n ∷ ns) (number_of x) (all_numbers (drop (i + 1) (texts ps))))) (sym e)
      ∙ ap (λ x. of_one (λ ns. xs ++ ns) (of_two (λ n ns. n ∷ ns) x (all_numbers (drop (i + 1) (texts ps))))) (sym q)

  none_next : (w : List ℕ) → i < length ps → w ≡ get_or (texts ps) i [] → None ≡ number_of w → None ≡ whole
  none_next w h e q = sym (word_next None w h e q)

  one_next : (ys : List ℕ) (n : ℕ) (w : List ℕ) → i < length ps → w ≡ get_or (texts ps) i [] → Some n ≡ number_of w → ys ≡ xs ++ (n ∷ []) → whole ≡ of_one (λ ns. ys ++ ns) (all_numbers (drop (i + 1) (texts ps)))
  one_next ys n w h e q p =
      word_next (Some n) w h e q
      ∙ both xs n (all_numbers (drop (i + 1) (texts ps)))
      ∙ ap (λ zs. of_one (λ ns. zs ++ ns) (all_numbers (drop (i + 1) (texts ps)))) (sym p)

  none_left : length ps ≤ i → Some xs ≡ whole
  none_left h =
      sym (so_far ∙ ap (of_one (λ ns. xs ++ ns)) (at_drop_all all_numbers (texts ps) i (omega (arith, length-map ps now))) ∙ ap Some (append-nil xs))

-- where all the words are to be numbers
module _ (ps : List (Bor (List ℕ))) (xs : List ℕ) (i : ℕ) (so_far : all_numbers (texts ps) ≡ of_one (λ ns. xs ++ ns) (all_numbers (drop i (texts ps)))) where
  pub no_number : (w : List ℕ) → i < length ps → w ≡ get_or (texts ps) i [] → None ≡ number_of w → None ≡ all_numbers (texts ps)
  no_number = none_next ps xs i (all_numbers (texts ps)) so_far

  pub one_number : (ys : List ℕ) (n : ℕ) (w : List ℕ) → i < length ps → w ≡ get_or (texts ps) i [] → Some n ≡ number_of w → ys ≡ xs ++ (n ∷ []) → all_numbers (texts ps) ≡ of_one (λ ns. ys ++ ns) (all_numbers (drop (i + 1) (texts ps)))
  one_number = one_next ps xs i (all_numbers (texts ps)) so_far

  pub all_words : length ps ≤ i → Some xs ≡ all_numbers (texts ps)
  all_words = none_left ps xs i (all_numbers (texts ps)) so_far

-- where the words after the first are
module _ (ps : List (Bor (List ℕ))) (xs : List ℕ) (i : ℕ) (so_far : all_numbers (drop 1 (texts ps)) ≡ of_one (λ ns. xs ++ ns) (all_numbers (drop i (texts ps)))) where
  pub no_later_number : (w : List ℕ) → i < length ps → w ≡ get_or (texts ps) i [] → None ≡ number_of w → None ≡ all_numbers (drop 1 (texts ps))
  no_later_number = none_next ps xs i (all_numbers (drop 1 (texts ps))) so_far

  pub one_later_number : (ys : List ℕ) (n : ℕ) (w : List ℕ) → i < length ps → w ≡ get_or (texts ps) i [] → Some n ≡ number_of w → ys ≡ xs ++ (n ∷ []) → all_numbers (drop 1 (texts ps)) ≡ of_one (λ ns. ys ++ ns) (all_numbers (drop (i + 1) (texts ps)))
  one_later_number = one_next ps xs i (all_numbers (drop 1 (texts ps))) so_far

  pub all_later_words : length ps ≤ i → Some xs ≡ all_numbers (drop 1 (texts ps))
  all_later_words = none_left ps xs i (all_numbers (drop 1 (texts ps))) so_far

-- a line that is not understood settles it
stays : (k n : ℕ) (ls : List (List ℕ)) → reads (Err k) n ls ≡ Err k
stays k n [] = refl
stays k n (l ∷ ls) = stays k (n + 1) ls

module _ (ps : List (Bor (List ℕ))) (p : Plan) (i : ℕ) where
  -- the next line, by its words
  line_next : (o : Option Plan) (l b : List ℕ) (ws : List (List ℕ)) → i < length ps → l ≡ get_or (texts ps) i [] → b ≡ bare l → ws ≡ words_of b → adds p ws ≡ o → reads (Ok p) (i + 1) (drop i (texts ps)) ≡ reads (found o (i + 1)) (i + 1 + 1) (drop (i + 1) (texts ps))
  line_next o l b ws h e f g a =
      let rest = drop (i + 1) (texts ps) in
      at_drop_more (reads (Ok p) (i + 1)) (texts ps) i [] (omega (arith, length-map ps now))
      ∙ ap (λ x. reads (found (adds p (words_of (bare x))) (i + 1)) (i + 1 + 1) rest) (sym e)
      ∙ ap (λ x. reads (found (adds p (words_of x)) (i + 1)) (i + 1 + 1) rest) (sym f)
      ∙ ap (λ x. reads (found (adds p x) (i + 1)) (i + 1 + 1) rest) (sym g)
      ∙ ap (λ x. reads (found x (i + 1)) (i + 1 + 1) rest) a

  pub line_added : (q : Plan) (l b : List ℕ) (ws : List (List ℕ)) → i < length ps → l ≡ get_or (texts ps) i [] → b ≡ bare l → ws ≡ words_of b → adds p ws ≡ Some q → reads (Ok p) (i + 1) (drop i (texts ps)) ≡ reads (Ok q) (i + 1 + 1) (drop (i + 1) (texts ps))
  line_added q l b ws h e f g a = line_next (Some q) l b ws h e f g a

  pub line_refused : (l b : List ℕ) (ws : List (List ℕ)) → i < length ps → l ≡ get_or (texts ps) i [] → b ≡ bare l → ws ≡ words_of b → adds p ws ≡ None → reads (Ok p) (i + 1) (drop i (texts ps)) ≡ Err (i + 1)
  line_refused l b ws h e f g a = line_next None l b ws h e f g a ∙ stays (i + 1) (i + 1 + 1) (drop (i + 1) (texts ps))

  pub all_lines : length ps ≤ i → reads (Ok p) (i + 1) (drop i (texts ps)) ≡ Ok p
  all_lines h = at_drop_all (reads (Ok p) (i + 1)) (texts ps) i (omega (arith, length-map ps now))
