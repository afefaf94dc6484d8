-- A well-formed card keeps the laws of a device.
use Rattle.std.specs.Prelude.{◌≡◌, ℕ, ◌^◌, ◌<◌, ◌≤◌, true, false, cond, List, length, ◌≢◌, nat_lt, slice_index, refl}
use Rattle.std.proofs.Common.{ap, ⊎_elim, inl, inr, arith}
use Rattle.std.proofs.lemmas.Bool.{cases_lt, lt-ltb, le-ltb, both_ways}
use Rattle.cubes.specs.Masks.{bit}
use Rattle.cubes.specs.Cubes.{Refines, Agree, vector}
use Rattle.cubes.specs.declared.cube.Cube.{Cube}
use Rattle.cubes.proofs.Bits.{bit_zero, passes, sets_bit}
use Rattle.devices.specs.Devices.{Lawful, Known, unknown}
use Rattle.devices.specs.declared.answer.Answer.{Answer}
use Rattle.boards.specs.declared.parts.Value.{Value}
use Rattle.boards.specs.declared.parts.Value.TheVariants.{Zero, One, Unknown}
use Rattle.boards.specs.Values.{is_zero, is_one}
use Rattle.boards.specs.Cards.{Card, lines, read, values, seen_at, machines, fault, output, meaning, Sound}
use Rattle.boards.specs.Related.{lines_related}
use Rattle.boards.specs.Equal.{Equal, equal_kept, given_equal}
use Rattle.boards.specs.Finer.{Finer, stays, finer_kept, given_finer}
use Rattle.boards.specs.Sure.{Sure, sure_known, sure_kept, given_sure}
use Rattle.boards.specs.Lines.{values_fit}
use Rattle.boards.specs.Outputs.{seen_alike}

not_both_of : (v : Value) → is_zero v ≡ true → is_one v ≢ true
not_both_of Zero p q = both_ways false refl q
not_both_of One p q = both_ways false refl p
not_both_of Unknown p q = both_ways false refl p

no_bit : (o : ℕ) → bit 0 o ≢ 1
no_bit o h = let z = bit_zero o in omega arith

-- the values of the lines of machine k
abbrev at : Card → ℕ → Cube → List Value
at c k x = values c (fault c k) x (lines c)

-- what machine k answers: what stands on its outputs, or nothing
by_machine : (c : Card) (k : ℕ) (x : Cube) (P : Answer → Type 0) → (k < machines c → P (seen_at c (at c k x))) → (machines c ≤ k → P unknown) → P ((meaning c).answer k x)
by_machine c k x P yes' no' =
    ⊎_elim (λ (l : k < machines c). rw (lt-ltb k (machines c) l) (yes' l)) (λ (l : machines c ≤ k). rw (le-ltb k (machines c) l) (no' l)) (cases_lt k (machines c))

known_below : (c : Card) (vs : List Value) (o : ℕ) → Known (seen_at c vs) o → o < length c.outputs
known_below c vs o k = ⊎_elim (λ z. (passes (λ i. is_zero (output c vs i)) (length c.outputs) o z).0) (λ z. (passes (λ i. is_one (output c vs i)) (length c.outputs) o z).0) k

module _ (c : Card) (s : Sound c) where
  not_both : (k : ℕ) (x : Cube) (o : ℕ) → bit ((meaning c).answer k x).zeros o ≡ 1 → bit ((meaning c).answer k x).ones o ≢ 1
  not_both k x o =
      by_machine c k x (λ a. bit a.zeros o ≡ 1 → bit a.ones o ≢ 1)
      (λ l p q. let vs = at c k x in not_both_of (output c vs o) (passes (λ i. is_zero (output c vs i)) (length c.outputs) o p).1 (passes (λ i. is_one (output c vs i)) (length c.outputs) o q).1)
      (λ l p q. no_bit o p)

  none_above : (k : ℕ) (x : Cube) (o : ℕ) → length c.outputs ≤ o → Known ((meaning c).answer k x) o → ⊥
  none_above k x o h =
      by_machine c k x (λ a. Known a o → ⊥)
      (λ l p. let q = known_below c (at c k x) o p in omega arith)
      (λ l. ⊎_elim (no_bit o) (no_bit o))

  own_inputs : (k : ℕ) (a b : Cube) → Agree c.inputs a b → (meaning c).answer k a ≡ (meaning c).answer k b
  own_inputs k a b h =
      ap (λ r. cond (nat_lt k (machines c)) r unknown)
      (seen_alike c s.outputs_exist (at c k a) (at c k b)
      (lines_related Equal equal_kept c s (fault c k) a b (read (at c k a)) (read (at c k b)) (values_fit c s (fault c k) a) (values_fit c s (fault c k) b) (λ i l. given_equal a b i (h i l).0 (h i l).1)))

  refined : (k : ℕ) (a b : Cube) (o : ℕ) → Refines a b → (bit ((meaning c).answer k b).zeros o ≡ 1 → bit ((meaning c).answer k a).zeros o ≡ 1) × (bit ((meaning c).answer k b).ones o ≡ 1 → bit ((meaning c).answer k a).ones o ≡ 1)
  refined k a b o r =
      ⊎_elim
      (λ (l : k < machines c).
      rw (lt-ltb k (machines c) l) (
        (λ p. let q = passes (λ i. is_zero (output c (at c k b) i)) (length c.outputs) o p in sets_bit (λ i. is_zero (output c (at c k a) i)) (length c.outputs) o q.0 (stays is_zero refl (finer q.0) q.1)),
        (λ p. let q = passes (λ i. is_one (output c (at c k b) i)) (length c.outputs) o p in sets_bit (λ i. is_one (output c (at c k a) i)) (length c.outputs) o q.0 (stays is_one refl (finer q.0) q.1)),
      ))
      (λ (l : machines c ≤ k). rw (le-ltb k (machines c) l) ((λ p. p), (λ p. p)))
      (cases_lt k (machines c))
    where
      finer : o < length c.outputs → Finer (output c (at c k b) o) (output c (at c k a) o)
      finer h = lines_related Finer finer_kept c s (fault c k) b a (read (at c k b)) (read (at c k a)) (values_fit c s (fault c k) b) (values_fit c s (fault c k) a) (λ i _. given_finer a b r i) (slice_index c.outputs o) (s.outputs_exist o h)

  all_known : (k v o : ℕ) → k < machines c → o < length c.outputs → Known ((meaning c).answer k (vector c.inputs v)) o
  all_known k v o l h =
      let x = vector c.inputs v in
      let vs = at c k x in
      let fit = values_fit c s (fault c k) x in
      rw (lt-ltb k (machines c) l)
      (⊎_elim
      (λ z. inl (sets_bit (λ i. is_zero (output c vs i)) (length c.outputs) o h z))
      (λ z. inr (sets_bit (λ i. is_one (output c vs i)) (length c.outputs) o h z))
      (sure_known (output c vs o) (lines_related (λ v _. Sure v) sure_kept c s (fault c k) x x (read vs) (read vs) fit fit (given_sure c.inputs v) (slice_index c.outputs o) (s.outputs_exist o h))))

  alike : (i j v o : ℕ) → i < machines c → j < machines c → v < 2 ^ c.inputs → Known ((meaning c).answer i (vector c.inputs v)) o → Known ((meaning c).answer j (vector c.inputs v)) o
  alike i j v o hi hj hv p = all_known j v o hj (known_below c (at c i (vector c.inputs v)) o (rw (lt-ltb i (machines c) hi) at p))

  pub card_lawful : Lawful (meaning c)
  card_lawful = record {
    few_inputs = s.few_inputs;
    few_outputs = s.few_outputs;
    some_machine = omega arith;
    few_machines = omega (arith, s.few_faults);
    no_machine = λ k x h. rw (le-ltb k (machines c) h);
    not_both = not_both;
    none_above = none_above;
    own_inputs = own_inputs;
    refined = refined;
    alike = alike;
  }
