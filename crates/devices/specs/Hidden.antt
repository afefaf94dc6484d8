-- A masked device keeps the laws of the device below it.
use Rattle.std.specs.Prelude.{◌≡◌, ℕ}
use Rattle.std.proofs.Common.{ap, inl, inr, ⊎_elim, arith}
use Rattle.std.specs.Int.Bits.{bit_and}
use Rattle.cubes.specs.Masks.{bit}
use Rattle.cubes.proofs.Bits.{bit_of_and}
use Rattle.cubes.specs.Cubes.{vector}
use Rattle.devices.specs.Devices.{Meaning, Lawful, Known}
use Rattle.devices.specs.Masking.{kept, masked}
use Rattle.devices.specs.declared.answer.Answer.{Answer}

both : (x mask o : ℕ) → bit (bit_and x mask) o ≡ 1 → (bit x o ≡ 1) × (bit mask o ≡ 1)
both x mask o h = let e = bit_of_and x mask o in (omega arith, omega arith)

one : (x mask o : ℕ) → bit x o ≡ 1 → bit mask o ≡ 1 → bit (bit_and x mask) o ≡ 1
one x mask o h k = let e = bit_of_and x mask o in omega arith

known_in : (mask : ℕ) (a : Answer) (o : ℕ) → Known (kept mask a) o → Known a o × (bit mask o ≡ 1)
known_in mask a o = ⊎_elim (λ h. let p = both a.zeros mask o h in (inl p.0, p.1)) (λ h. let p = both a.ones mask o h in (inr p.0, p.1))

known_out : (mask : ℕ) (a : Answer) (o : ℕ) → Known a o → bit mask o ≡ 1 → Known (kept mask a) o
known_out mask a o k h = ⊎_elim (λ p. inl (one a.zeros mask o p h)) (λ p. inr (one a.ones mask o p h)) k

pub masked_lawful : (m : Meaning) (mask : ℕ) → Lawful m → Lawful (masked m mask)
masked_lawful m mask law = record {
  few_inputs = law.few_inputs;
  few_outputs = law.few_outputs;
  some_machine = law.some_machine;
  few_machines = law.few_machines;
  no_machine = λ k c h. ap (kept mask) (law.no_machine k c h);
  not_both = λ k c o p q. law.not_both k c o (both (m.answer k c).zeros mask o p).0 (both (m.answer k c).ones mask o q).0;
  none_above = λ k c o h p. law.none_above k c o h (known_in mask (m.answer k c) o p).0;
  own_inputs = λ k a b h. ap (kept mask) (law.own_inputs k a b h);
  refined = λ k a b o h. (
    (λ p. let q = both (m.answer k b).zeros mask o p in one (m.answer k a).zeros mask o ((law.refined k a b o h).0 q.0) q.1),
    (λ p. let q = both (m.answer k b).ones mask o p in one (m.answer k a).ones mask o ((law.refined k a b o h).1 q.0) q.1),
  );
  alike = λ i j v o hi hj hv p.
      let q = known_in mask (m.answer i (vector m.inputs v)) o p in
      known_out mask (m.answer j (vector m.inputs v)) o (law.alike i j v o hi hj hv q.0) q.1;
}
