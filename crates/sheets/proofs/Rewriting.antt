-- A loop that goes through a list and writes over each entry what it makes of it.
use Rattle.std.proofs.Common.{◌≡◌, ℕ, ◌+◌, ◌<◌, ◌≤◌, List, length, get_or, set, ap, ◌∙◌, arith}
use Rattle.std.proofs.lemmas.List.{get_or-set_other}
use Rattle.std.proofs.lemmas.List.Edits.{fill_by_more}

-- the entries below i are those of f, and the others are as they were
abbrev pub Rewritten : {X : Type 0} → (ℕ → X) → X → List X → List X → ℕ → Type 0
Rewritten f d before xs i = ((k : ℕ) → k < i → get_or xs k d ≡ f k) × ((k : ℕ) → i ≤ k → get_or xs k d ≡ get_or before k d)

pub rewritten_more : {X : Type 0} (f : ℕ → X) (d : X) (before xs : List X) (i : ℕ) (v : X) → i < length xs → v ≡ f i → Rewritten f d before xs i → Rewritten f d before (set xs i v) (i + 1)
rewritten_more f d before xs i v h is w = (
  λ k l. ap (λ x. get_or (set xs i x) k d) is ∙ fill_by_more f xs i d h w.0 k l,
  λ k l. get_or-set_other xs i k v d (λ e. omega arith) ∙ w.1 k (omega arith),
)
