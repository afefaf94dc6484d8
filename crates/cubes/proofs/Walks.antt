-- Walks by words of 64, for any test on numbers and any count of them.
use Rattle.std.proofs.Common.{◌≡◌, ℕ, ◌+◌, ◌-◌, ◌*◌, ◌^◌, ◌<◌, ◌≤◌, Bool, true, false, ◌&&◌, eqb, ltb, sym, refl, ap, ◌∙◌, ⊎_elim, arith}
use lib.Bits.{bit_and}
use lib.Count.{count_trailing_zeros}
use Rattle.std.proofs.lemmas.Bool.{cases_lt, lt-ltb, ltb-true, eq-eqb, and_parts}
use Rattle.cubes.specs.Masks.{bit, has}
use Rattle.cubes.specs.Searching.{NoneBelow, Smallest}
use Rattle.cubes.specs.Blocks.{number_at, Marks, BlockOf}
use Rattle.cubes.specs.declared.block.Block.{Block}
use Rattle.cubes.proofs.Bits.{trailing_lowest, trailing_inside}
use Rattle.cubes.proofs.Words.{has_and, has_zero}

module _ (test : ℕ → Bool) (count : ℕ) where
  -- the number is one of the count, and passes
  abbrev pub passes : ℕ → Bool
  passes u = ltb u count && test u

  -- a word marks what passes of the 64 numbers from 64 b on
  abbrev pub Passing : ℕ → ℕ → Type 0
  Passing b word = Marks (λ k. passes (64 * b + k)) word

  -- nothing below passes
  abbrev pub NoneYet : ℕ → Type 0
  NoneYet n = (u : ℕ) → u < n → passes u ≡ false

  -- 64 numbers more, where the word marks none
  pub none_more : (b : ℕ) → NoneYet (64 * b) → Passing b 0 → NoneYet (64 * (b + 1))
  none_more b before here u l =
      ⊎_elim
      (λ (lt : u < 64 * b). before u lt)
      (λ (ge : 64 * b ≤ u).
      let s : 64 * b + (u - 64 * b) ≡ u = omega arith in
      sym (ap passes s) ∙ sym (here (u - 64 * b) (omega arith)) ∙ has_zero (u - 64 * b))
      (cases_lt u (64 * b))

  -- the lowest bit of the first word that marks any is the smallest number that passes
  pub first_found : (b word : ℕ) → 0 < word → word < 2 ^ 64 → NoneYet (64 * b) → Passing b word → (count_trailing_zeros 64 word < 64) × Smallest count test (64 * b + count_trailing_zeros 64 word)
  first_found b word p h before here =
      let t : ℕ = count_trailing_zeros 64 word in
      let inside : t < 64 = trailing_inside 64 word p h in
      let low = trailing_lowest 64 word in
      let found = and_parts _ _ (sym (here t inside) ∙ eq-eqb (bit word t) 1 (low.0 inside)) in
      let below : 64 * b + t < count = ltb-true _ _ found.0 in
      let smaller : (u : ℕ) → u < 64 * b + t → passes u ≡ false = λ u l.
      ⊎_elim
      (λ (lt : u < 64 * b). before u lt)
      (λ (ge : 64 * b ≤ u).
      let s : 64 * b + (u - 64 * b) ≡ u = omega arith in
      sym (ap passes s) ∙ sym (here (u - 64 * b) (omega arith)) ∙ ap (λ x. eqb x 1) (low.1 (u - 64 * b) (omega arith)))
      (cases_lt u (64 * b)) in
      (inside, (below, found.1, λ u l. sym (ap (λ x. x && test u) (lt-ltb u count (omega arith))) ∙ smaller u l))

  -- past the last number
  pub none_at_all : (n : ℕ) → count ≤ n → NoneYet n → NoneBelow count test
  none_at_all n c before u l = sym (ap (λ x. x && test u) (lt-ltb u count l)) ∙ before u (omega arith)

-- what is asked only where it counts
where_present : (there a b : Bool) → (there ≡ true → a ≡ b) → (a && there) ≡ (there && b)
where_present true true b e = e refl
where_present true false b e = e refl
where_present false true b e = refl
where_present false false b e = refl

-- what passes of a block's vectors, by the word that marks what passes of the vectors in its words
pub passing_block : (test : ℕ → Bool) (n b : ℕ) (block : Block) (word : ℕ) → BlockOf n b block → Marks (λ k. test (number_at n block.words k)) word → Passing test (2 ^ n) b (bit_and word block.present)
passing_block test n b block word is marks k l =
    has_and word block.present k ∙ ap (λ x. has word k && x) (is.present k l) ∙
    where_present (ltb (64 * b + k) (2 ^ n)) (has word k) (test (64 * b + k)) (λ t. marks k l ∙ ap test (is.numbered k l (ltb-true _ _ t)))
