-- Words that take in a mask of outputs vector by vector.
use Rattle.std.proofs.Common.{◌≡◌, ℕ, ◌+◌, ◌*◌, ◌^◌, ◌<◌, ◌≤◌, List, slice_index, sym, ap, ◌∙◌, subst, ⊎_elim, arith, nat_eq, get_or}
use Rattle.std.proofs.Math.ListN.{replicate}
use Rattle.std.proofs.lemmas.List.{get_or-replicate}
use Rattle.std.proofs.lemmas.Bool.{cases_lt}
use Rattle.cubes.specs.Masks.{bit, has}
use Rattle.cubes.proofs.Bits.{bit_two, bit_at_top, bit_below_top, topped_below}
use Rattle.devices.specs.Widely.{Column}

-- words of zeros hold nothing
pub nothing_yet : (n o : ℕ) → o < n → get_or {A = ℕ} (replicate n 0) o 0 ≡ 0
nothing_yet n o h = get_or-replicate {A = ℕ} n o 0 0 h

-- after holds what before held of the vectors below k, and at k what the mask says
pub below_lifted : (before after : List ℕ) (k mask : ℕ) →
    ((o : ℕ) → o < 32 → slice_index before o < 2 ^ k) →
    ((o : ℕ) → o < 32 → slice_index after o ≡ slice_index before o + bit mask o * 2 ^ k) →
    (o : ℕ) → o < 32 → slice_index after o < 2 ^ (k + 1)
below_lifted before after k mask low is o h =
    let p = topped_below (slice_index before o) (bit mask o) k (low o h) (bit_two mask o) in
    let e = is o h in
    subst (λ (x : ℕ). x < 2 ^ (k + 1)) (sym e) p

pub column_lifted : (before after : List ℕ) (k mask : ℕ) (f : ℕ → ℕ) →
    ((o : ℕ) → o < 32 → slice_index before o < 2 ^ k) →
    ((o : ℕ) → o < 32 → slice_index after o ≡ slice_index before o + bit mask o * 2 ^ k) →
    mask ≡ f k → ((q : ℕ) → q < k → Column before q (f q)) →
    (q : ℕ) → q < k + 1 → Column after q (f q)
column_lifted before after k mask f low is here old q l o h =
    let w = slice_index before o in
    let b = bit mask o in
    ap (λ x. has x q) (is o h)
    ∙ ⊎_elim
    (λ (lt : q < k). ap (λ x. nat_eq x 1) (bit_below_top w b k q lt) ∙ old q lt o h)
    (λ (ge : k ≤ q).
    let s : k ≡ q = omega arith in
    subst (λ (j : ℕ). has (w + b * 2 ^ k) j ≡ has (f j) o) s
    (ap (λ x. nat_eq x 1) (bit_at_top w b k (low o h) (bit_two mask o)) ∙ ap (λ m. has m o) here))
    (cases_lt q k)
