-- The laws of the four goals, each from the laws of the device or of the goals that it is made of.
use Rattle.std.specs.Prelude.{◌≡◌, ℕ, ◌+◌, ◌-◌, ◌≤◌, min, Bool, true, false, ◌&&◌, ltb, List, length, Some, None, Option, nat_lt, refl}
use Rattle.std.proofs.Common.{◌∙◌, ap, inl, inr, ⊎_elim, arith}
use Rattle.std.proofs.lemmas.Bool.{cases_lt, le-ltb, and_parts, and_from, and_left, and_right}
use Rattle.std.proofs.lemmas.Option.{slice_get_past}
use Rattle.std.specs.List.{slice_get}
use Rattle.cubes.specs.Cubes.{Refines, Agree}
use Rattle.cubes.specs.declared.cube.Cube.{Cube}
use Rattle.devices.specs.Devices as device
use Rattle.devices.specs.Devices.{told_apart}
use Rattle.devices.specs.declared.answer.Answer.{Answer}
use Rattle.devices.proofs.Apart.{apart_at, apart_from}
use Rattle.goals.specs.Goals.{Meaning, Lawful, most_duties}
use Rattle.goals.specs.Detecting.{detection}
use Rattle.goals.specs.Distinguishing.{distinction, faulty_pairs, tells_pair}
use Rattle.goals.specs.Joining.{joined, of_two}
use Rattle.goals.specs.Excusing.{excused}
use Rattle.goals.specs.Pairs.{pairs_few}

module _ (m : device.Meaning) (law : device.Lawful m) where
  -- machines that a cube tells apart are told apart where it is refined
  still_apart : (i j : ℕ) (a b : Cube) → Refines a b → told_apart (m.answer i b) (m.answer j b) ≡ true → told_apart (m.answer i a) (m.answer j a) ≡ true
  still_apart i j a b r t =
      let x = apart_at (m.answer i b) (m.answer j b) t in
      let p = law.refined i a b x.0 r in
      let q = law.refined j a b x.0 r in
      apart_from (m.answer i a) (m.answer j a) x.0
      (⊎_elim (λ o. inl (p.0 o.0, q.1 o.1)) (λ o. inr (p.1 o.0, q.0 o.1)) x.1)

  -- and by every cube that says the same of the device's inputs
  same_apart : (i j : ℕ) (a b : Cube) → Agree m.inputs a b → told_apart (m.answer i a) (m.answer j a) ≡ told_apart (m.answer i b) (m.answer j b)
  same_apart i j a b h =
      ap (λ (x : Answer). told_apart x (m.answer j a)) (law.own_inputs i a b h) ∙ ap (λ (x : Answer). told_apart (m.answer i b) x) (law.own_inputs j a b h)

  pub detection_lawful : Lawful (detection m)
  detection_lawful = record {
    few_inputs = law.few_inputs;
    few_duties = let h = law.few_machines in omega arith;
    none_wanted_above = λ d h. le-ltb d (m.machines - 1) h;
    none_covered_above = λ c d h. and_left _ _ (le-ltb d (m.machines - 1) h);
    refined = λ a b d r e. (let p = and_parts _ _ e in and_from _ _ p.0 (still_apart 0 (d + 1) a b r p.1));
    own_inputs = λ a b d h. ap (λ (t : Bool). nat_lt d (m.machines - 1) && t) (same_apart 0 (d + 1) a b h);
  }

  pub distinction_lawful : Lawful (distinction m)
  distinction_lawful = record {
    few_inputs = law.few_inputs;
    few_duties = let h = law.few_machines in let k = pairs_few (m.machines - 2) 1 (omega arith) in omega arith;
    none_wanted_above = λ d h. le-ltb d (length (faulty_pairs m)) h;
    none_covered_above = λ c d h. ap (tells_pair m c) (slice_get_past (faulty_pairs m) d h);
    refined = λ a b d r e. still a b r (slice_get (faulty_pairs m) d) e;
    own_inputs = λ a b d h. same a b h (slice_get (faulty_pairs m) d);
  }
    where
      still : (a b : Cube) → Refines a b → (o : Option (ℕ × ℕ)) → tells_pair m b o ≡ true → tells_pair m a o ≡ true
      still a b r None e = e
      still a b r (Some x) e = still_apart x.0 x.1 a b r e

      same : (a b : Cube) → Agree m.inputs a b → (o : Option (ℕ × ℕ)) → tells_pair m a o ≡ tells_pair m b o
      same a b h None = refl
      same a b h (Some x) = same_apart x.0 x.1 a b h

-- past the duties of both parts there is none
none_above : (n k : ℕ) (p q : ℕ → Bool) (d : ℕ) → n ≤ most_duties → ((e : ℕ) → k ≤ e → q e ≡ false) → min (n + k) most_duties ≤ d → of_two n p q d ≡ false
none_above n k p q d few z h =
    let a : ltb d n ≡ false = le-ltb d n (omega arith) in
    rw a (elim (cases_lt d most_duties) [ inl l ↦ and_right _ _ (z (d - n) (omega arith)) | inr l ↦ and_left _ _ (le-ltb d most_duties l) ])

-- what holds of both parts holds of the two
still_two : (n : ℕ) (p q p' q' : ℕ → Bool) (d : ℕ) → (p d ≡ true → p' d ≡ true) → (q (d - n) ≡ true → q' (d - n) ≡ true) → of_two n p q d ≡ true → of_two n p' q' d ≡ true
still_two n p q p' q' d f g e = grind arith

same_two : (n : ℕ) (p q p' q' : ℕ → Bool) (d : ℕ) → p d ≡ p' d → q (d - n) ≡ q' (d - n) → of_two n p q d ≡ of_two n p' q' d
same_two n p q p' q' d f g = rw (f, g)

pub joined_lawful : (m n : Meaning) → Lawful m → Lawful n → Lawful (joined m n)
joined_lawful m n lm ln = record {
  few_inputs = let a = lm.few_inputs in let b = ln.few_inputs in omega arith;
  few_duties = omega arith;
  none_wanted_above = λ d h. none_above m.duties n.duties m.wanted n.wanted d lm.few_duties ln.none_wanted_above h;
  none_covered_above = λ c d h. none_above m.duties n.duties (m.covers c) (n.covers c) d lm.few_duties (ln.none_covered_above c) h;
  refined = λ a b d r e. still_two m.duties (m.covers b) (n.covers b) (m.covers a) (n.covers a) d (lm.refined a b d r) (ln.refined a b (d - m.duties) r) e;
  own_inputs = λ a b d h. same_two m.duties (m.covers a) (n.covers a) (m.covers b) (n.covers b) d (lm.own_inputs a b d (λ i l. h i (omega arith))) (ln.own_inputs a b (d - m.duties) (λ i l. h i (omega arith)));
}

pub excused_lawful : (m : Meaning) (xs : List ℕ) → Lawful m → Lawful (excused m xs)
excused_lawful m xs law = record {
  few_inputs = law.few_inputs;
  few_duties = law.few_duties;
  none_wanted_above = λ d h. and_left _ _ (law.none_wanted_above d h);
  none_covered_above = law.none_covered_above;
  refined = law.refined;
  own_inputs = law.own_inputs;
}
