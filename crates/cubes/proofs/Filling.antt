-- Loops that fill a list with values of which something holds: writing each place, or putting one more at the end.
use Rattle.std.proofs.Common.{◌≡◌, ℕ, ◌+◌, ◌<◌, ◌≤◌, List, [], ◌∷◌, ◌++◌, length, get_or, set, sym, subst, ⊎_elim, arith}
use Rattle.std.proofs.lemmas.List.{get_or-set_same, get_or-set_other, get_or_append_left, get_or_at, length_push}
use Rattle.std.proofs.lemmas.Bool.{cases_lt}

pub filled : {X : Type 0} (P : ℕ → X → Type 0) (xs : List X) (d : X) (i : ℕ) (v : X) → i < length xs → ((k : ℕ) → k < i → P k (get_or xs k d)) → P i v → (k : ℕ) → k < i + 1 → P k (get_or (set xs i v) k d)
filled P xs d i v h below here k l =
    ⊎_elim
    (λ (lt : k < i). subst (P k) (sym (get_or-set_other xs i k v d (λ e. omega arith))) (below k lt))
    (λ (ge : i ≤ k).
    let s : i ≡ k = omega arith in
    subst (λ (j : ℕ). P j (get_or (set xs i v) j d)) s (subst (P i) (sym (get_or-set_same xs i v d h)) here))
    (cases_lt k i)

-- what holds of each element holds of each with one more of which it holds
pub pushed : {X : Type 0} (P : ℕ → X → Type 0) (d : X) (xs : List X) (x : X) → ((i : ℕ) → i < length xs → P i (get_or xs i d)) → P (length xs) x → (i : ℕ) → i < length (xs ++ (x ∷ [])) → P i (get_or (xs ++ (x ∷ [])) i d)
pushed P d xs x each here i l =
    let e = length_push xs x in
    ⊎_elim
    (λ (h : i < length xs). subst (P i) (sym (get_or_append_left xs (x ∷ []) d i h)) (each i h))
    (λ (h : length xs ≤ i).
    let s : length xs ≡ i = omega arith in
    subst (P i) (sym (get_or_at xs x [] d i s)) (subst (λ (k : ℕ). P k x) s here))
    (cases_lt i (length xs))
