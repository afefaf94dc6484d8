-- Going through the pairs in order, marking each by the answers of its two machines.
use Rattle.std.proofs.Common.{◌≡◌, ℕ, ◌+◌, ◌-◌, ◌<◌, ◌≤◌, Bool, false, List, [], length, get_or, drop, set, Some, None, Option, sym, refl, ap, ◌∙◌, arith}
use Rattle.std.specs.List.{slice_get}
use Rattle.cubes.specs.declared.cube.Cube.{Cube}
use Rattle.devices.specs.Devices as device
use Rattle.devices.specs.Devices.{told_apart, unknown}
use Rattle.devices.specs.declared.answer.Answer.{Answer}
use Rattle.cubes.proofs.Filling.{filled}
use Rattle.goals.specs.Distinguishing.{pairs, faulty_pairs, tells_pair, tells_by, Answered}
use Rattle.goals.specs.Pairs.{left_from, left_along, left_down, left_none, at_cons, at_nil}
use Rattle.goals.proofs.Orders.{each}

-- at place d the next pair is (i, j), and the marks before d are made
abbrev pub Walk : ℕ → List Answer → ℕ → ℕ → ℕ → List Bool → Type 0
Walk n answers d i j marks =
    (i ≤ n + 1) × (i < j) × (i < n + 1 → j ≤ n + 1)
    × (drop d (pairs 1 n) ≡ left_from (n + 1) i j)
    × ((k : ℕ) → k < d → get_or marks k false ≡ tells_by answers (slice_get (pairs 1 n) k))

module _ (n : ℕ) (answers : List Answer) (d i j : ℕ) (marks : List Bool) (w : Walk n answers d i j marks) (l : d < length marks) where
  marked : (b : Bool) → b ≡ tells_by answers (slice_get (pairs 1 n) d) → (k : ℕ) → k < d + 1 → get_or (set marks d b) k false ≡ tells_by answers (slice_get (pairs 1 n) k)
  marked b e = filled (λ k v. v ≡ tells_by answers (slice_get (pairs 1 n) k)) marks false d b l w.4 e

  here : i < n + 1 → (slice_get (pairs 1 n) d ≡ Some (i, j)) × (drop (d + 1) (pairs 1 n) ≡ left_from (n + 1) i (j + 1))
  here a = at_cons (pairs 1 n) d (i, j) (left_from (n + 1) i (j + 1)) (w.3 ∙ left_along (n + 1) i j (w.2 a))

  pub along : (b : Bool) → b ≡ told_apart (get_or answers i unknown) (get_or answers j unknown) → i < n + 1 → j < n + 1 → Walk n answers (d + 1) i (j + 1) (set marks d b)
  along b e a h = let q = here a in let z = w.1 in
      (w.0, omega arith, (λ _. omega arith), q.1, marked b (e ∙ sym (ap (tells_by answers) q.0)))

  pub down : (b : Bool) → b ≡ told_apart (get_or answers i unknown) (get_or answers j unknown) → i < n + 1 → n + 1 ≤ j → Walk n answers (d + 1) (i + 1) (i + 1 + 1) (set marks d b)
  down b e a h = let q = here a in let y = w.2 a in let s : j + 1 ≡ n + 1 + 1 = omega arith in
      (omega arith, omega arith, (λ f. omega arith), q.1 ∙ ap (λ k. left_from (n + 1) i k) s ∙ left_down (n + 1) i a, marked b (e ∙ sym (ap (tells_by answers) q.0)))

  pub over : n + 1 ≤ i → Walk n answers (d + 1) i j (set marks d false)
  over h =
      let y = w.0 in let z = w.1 in
      let s : i ≡ n + 1 = omega arith in
      let none : left_from (n + 1) i j ≡ [] = ap (λ k. left_from (n + 1) k j) s ∙ left_none (n + 1) j (omega arith) in
      let q = at_nil (pairs 1 n) d (w.3 ∙ none) in
      (w.0, w.1, w.2, q.1 ∙ sym none, marked false (sym (ap (tells_by answers) q.0)))

-- the answers in the list are those of the machines
pub by_answers : (m : device.Meaning) (c : Cube) (answers : List Answer) → Answered m c answers → 0 < m.machines → (d : ℕ) → tells_by answers (slice_get (faulty_pairs m) d) ≡ tells_pair m c (slice_get (faulty_pairs m) d)
by_answers m c answers a some d = step (slice_get (faulty_pairs m) d) refl
  where
    step : (o : Option (ℕ × ℕ)) → slice_get (faulty_pairs m) d ≡ o → tells_by answers o ≡ tells_pair m c o
    step None e = refl
    step (Some x) e =
        let q = each (m.machines - 2) 1 d x e in
        ap (λ r. told_apart r (get_or answers x.1 unknown)) (a.each x.0 unknown (omega (arith, q.0, q.1, q.2))) ∙ ap (λ r. told_apart (m.answer x.0 c) r) (a.each x.1 unknown (omega (arith, q.0, q.1, q.2)))
