-- What stands on the outputs of a card, as masks.
use Rattle.std.specs.Prelude.{◌≡◌, ℕ, ◌+◌, ◌^◌, ◌<◌, Bool, cond, List, length, slice_index}
use Rattle.std.proofs.Common.{ap, ◌∙◌, add-one}
use Rattle.cubes.specs.Masks.{mask_of}
use Rattle.cubes.proofs.Bits.{mask_of_agree}
use Rattle.devices.specs.declared.answer.Answer.{Answer}
use Rattle.boards.specs.declared.parts.Value.{Value}
use Rattle.boards.specs.Values.{is_zero, is_one}
use Rattle.boards.specs.Cards.{Card, lines, read, seen_at, output, OutputsExist}

abbrev two : ℕ → ℕ → Answer
two z o = record { zeros = z; ones = o }

-- the outputs hang on the values of the lines alone
pub seen_alike : (c : Card) → OutputsExist (lines c) c.outputs → (vs ws : List Value) → ((k : ℕ) → k < lines c → read vs k ≡ read ws k) → seen_at c vs ≡ seen_at c ws
seen_alike c s vs ws e =
    let n : ℕ = length c.outputs in
    let z : mask_of (λ o. is_zero (output c vs o)) n ≡ mask_of (λ o. is_zero (output c ws o)) n = mask_of_agree _ _ n (λ o l. ap is_zero (e (slice_index c.outputs o) (s o l))) in
    let q : mask_of (λ o. is_one (output c vs o)) n ≡ mask_of (λ o. is_one (output c ws o)) n = mask_of_agree _ _ n (λ o l. ap is_one (e (slice_index c.outputs o) (s o l))) in
    ap (λ m. two m (mask_of (λ o. is_one (output c vs o)) n)) z ∙ ap (two (mask_of (λ o. is_zero (output c ws o)) n)) q

-- one place more of a mask
pub mask_of_more : (p : ℕ → Bool) (m n : ℕ) (b : Bool) → m ≡ mask_of p n → b ≡ p n → m + cond b (2 ^ n) 0 ≡ mask_of p (n + 1)
mask_of_more p m n b e f = rw (e, f, add-one n)
