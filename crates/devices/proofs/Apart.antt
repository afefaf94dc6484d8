-- Machines that no vector tells apart: a machine and itself, and whatever is equivalent to an equivalent one.
use Rattle.std.proofs.Common.{◌≡◌, ℕ, ◌<◌, ◌≤◌, Bool, true, false, ◌⊎◌, inl, inr, ⊎_elim, arith}
use Rattle.std.proofs.lemmas.Bool.{cases_Bool, cases_lt, or_cases, or_left, or_right, both_ways}
use Rattle.cubes.specs.Masks.{bit}
use Rattle.cubes.proofs.Bits.{share_at, share_from}
use Rattle.cubes.specs.Cubes.{vector}
use Rattle.devices.specs.Devices.{told_apart, Meaning, Lawful}
use Rattle.devices.specs.Deciding.{vectors, EquivalentMachines, Label}
use Rattle.devices.specs.declared.answer.Answer.{Answer}

-- output o is 0 in one answer and 1 in the other
abbrev pub Opposed : Answer → Answer → ℕ → Type 0
Opposed a b o = ((bit a.zeros o ≡ 1) × (bit b.ones o ≡ 1)) ⊎ ((bit a.ones o ≡ 1) × (bit b.zeros o ≡ 1))

pub apart_at : (a b : Answer) → told_apart a b ≡ true → (o : ℕ) × Opposed a b o
apart_at a b t =
    ⊎_elim
    (λ h. let r = share_at a.zeros b.ones h in (r.0, inl (r.1, r.2)))
    (λ h. let r = share_at a.ones b.zeros h in (r.0, inr (r.1, r.2)))
    (or_cases _ _ t)

pub apart_from : (a b : Answer) (o : ℕ) → Opposed a b o → told_apart a b ≡ true
apart_from a b o h =
    ⊎_elim
    (λ p. or_left _ _ (share_from a.zeros b.ones o p.0 p.1))
    (λ p. or_right _ _ (share_from a.ones b.zeros o p.0 p.1))
    h

-- a test that cannot be true is false
never : (t : Bool) → (t ≡ true → ⊥) → t ≡ false
never t h = ⊎_elim (λ e. absurd (h e)) (λ e. e) (cases_Bool t)

module _ (m : Meaning) (law : Lawful m) where
  -- no vector tells a machine from itself
  pub same_itself : (k : ℕ) → EquivalentMachines m k k
  same_itself k v h = never _ (λ t.
      let r = apart_at (m.answer k (vector m.inputs v)) (m.answer k (vector m.inputs v)) t in
      ⊎_elim (λ p. law.not_both k _ r.0 p.0 p.1) (λ p. law.not_both k _ r.0 p.1 p.0) r.1)

  -- a machine between two that are opposed at an output is opposed to one of them there, since it knows the output too
  between : (i j k v : ℕ) → i < m.machines → j < m.machines → v < vectors m → (o : ℕ) →
      Opposed (m.answer i (vector m.inputs v)) (m.answer k (vector m.inputs v)) o →
      Opposed (m.answer i (vector m.inputs v)) (m.answer j (vector m.inputs v)) o ⊎ Opposed (m.answer j (vector m.inputs v)) (m.answer k (vector m.inputs v)) o
  between i j k v hi hj hv o =
      ⊎_elim
      (λ p. ⊎_elim (λ z. inr (inl (z, p.1))) (λ u. inl (inl (p.0, u))) (law.alike i j v o hi hj hv (inl p.0)))
      (λ p. ⊎_elim (λ z. inl (inr (p.0, z))) (λ u. inr (inr (u, p.1))) (law.alike i j v o hi hj hv (inr p.0)))

  pub same_through : (i j k : ℕ) → i < m.machines → j < m.machines → EquivalentMachines m i j → EquivalentMachines m j k → EquivalentMachines m i k
  same_through i j k hi hj p q v hv = never _ (λ t.
      let r = apart_at _ _ t in
      ⊎_elim
      (λ h. both_ways _ (p v hv) (apart_from _ _ r.0 h))
      (λ h. both_ways _ (q v hv) (apart_from _ _ r.0 h))
      (between i j k v hi hj hv r.0 r.1))

  -- a machine that is not its own label is equivalent to a smaller one, so whatever it is equivalent to is too
  pub passed_over : (j k l : ℕ) → j < m.machines → Label m j l → (l ≡ j → ⊥) → ((i : ℕ) → i < j → EquivalentMachines m i k → ⊥) → EquivalentMachines m j k → ⊥
  passed_over j k l hj lab ne before same =
      let below : l < j = ⊎_elim (λ (h : l < j). h) (λ (h : j ≤ l). absurd (smaller h)) (cases_lt l j) in
      before l below (same_through l j k lab.0 hj lab.1 same)
    where
      smaller : j ≤ l → ⊥
      smaller h = let lt : j < l = omega arith in lab.2 j lt (same_itself j)
