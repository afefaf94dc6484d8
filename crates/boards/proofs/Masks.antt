-- The masks of an answer, output by output.
use Rattle.std.proofs.Common.{◌≡◌, ℕ, ◌+◌, ◌*◌, ◌%◌, ◌^◌, ◌<◌, Bool, true, false, cond, List, get_or, refl, ap, ◌∙◌, add-one, add-zero, arith}
use Rattle.std.specs.Int.{from_bool}
use Rattle.std.specs.Int.Bits.{bit_or, or_zero_r}
use Rattle.std.proofs.Math.Nat.{zero-mul, zero-mod}
use Rattle.std.proofs.lemmas.Nat.{one_shl}
use denote.Enum.Bare.{sameb}
use Rattle.cubes.specs.Masks.{mask_of}
use Rattle.cubes.proofs.Bits.{mask_of_lt, or_add}
use Rattle.boards.specs.contracts.parts.Value.{the_type}
use Rattle.boards.specs.declared.parts.Value.{Value}
use Rattle.boards.specs.declared.parts.Value.TheVariants.{Zero, One, Unknown}
use Rattle.boards.specs.Values.{is_zero, is_one}
use Rattle.boards.specs.Cards.{Card, output, read}

-- a bit put on top of a mask
bit_on : (m o : ℕ) (b : Bool) → o < 32 → m < 2 ^ o → bit_or m (from_bool b * 2 ^ o % 2 ^ 32) ≡ m + cond b (2 ^ o) 0
bit_on m o true h l = ap (bit_or m) (one_shl o 32 h) ∙ or_add m o l
bit_on m o false h l = rw (zero-mul, zero-mod, add-zero) (or_zero_r m)

-- one place more of a mask
mask_more : (p : ℕ → Bool) (m o n : ℕ) (b : Bool) → o < 32 → m ≡ mask_of p o → n ≡ from_bool b → b ≡ p o → bit_or m (n * 2 ^ o % 2 ^ 32) ≡ mask_of p (o + 1)
mask_more p m o n b h e f g =
    let l = mask_of_lt p o in
    let k : m < 2 ^ o = omega arith in
    rw (f, bit_on m o b h k, e, g, add-one o)

-- the tests of a value that the code makes
same_zero : (v : Value) → sameb the_type v Zero ≡ is_zero v
same_zero Zero = refl
same_zero One = refl
same_zero Unknown = refl

same_one : (v : Value) → sameb the_type v One ≡ is_one v
same_one Zero = refl
same_one One = refl
same_one Unknown = refl

module _ (c : Card) (vs : List Value) (m o n line : ℕ) (b : Bool) (h : o < 32) (f : n ≡ from_bool b) where
  pub zeros_more : m ≡ mask_of (λ i. is_zero (output c vs i)) o → b ≡ sameb the_type (read vs line) Zero → line ≡ get_or c.outputs o 0 → bit_or m (n * 2 ^ o % 2 ^ 32) ≡ mask_of (λ i. is_zero (output c vs i)) (o + 1)
  zeros_more e g is = mask_more (λ i. is_zero (output c vs i)) m o n b h e f (g ∙ same_zero (read vs line) ∙ ap (λ l. is_zero (read vs l)) is)

  pub ones_more : m ≡ mask_of (λ i. is_one (output c vs i)) o → b ≡ sameb the_type (read vs line) One → line ≡ get_or c.outputs o 0 → bit_or m (n * 2 ^ o % 2 ^ 32) ≡ mask_of (λ i. is_one (output c vs i)) (o + 1)
  ones_more e g is = mask_more (λ i. is_one (output c vs i)) m o n b h e f (g ∙ same_one (read vs line) ∙ ap (λ l. is_one (read vs l)) is)
