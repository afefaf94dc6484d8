-- One more letter of a cube.
use Rattle.std.proofs.Common.{◌≡◌, ℕ, ◌+◌, ◌*◌, ◌%◌, ◌^◌, ◌<◌, ◌≤◌, Bool, true, false, cond, ◌||◌, eqb, ltb, List, length, get_or, None, Ok, Err, Result, sym, ap, ◌∙◌, pow-suc, add-one, add-zero, arith, rules, pow_mono, le-ltb, eq-eqb, ne_eqb}
use Rattle.std.specs.Int.{from_bool}
use Rattle.std.specs.Int.Bits.{bit_or, or_zero_r}
use Rattle.std.specs.Result.{result_ok}
use Rattle.std.proofs.Math.Nat.{zero-mul, zero-mod}
use Rattle.std.proofs.lemmas.Nat.{one_shl}
use Rattle.cubes.proofs.Alike.{of_masks_is}
use Rattle.cubes.proofs.Bits.{mask_of_lt, or_add}
use Rattle.cubes.specs.Cubes.{of_masks, Made}
use Rattle.cubes.specs.declared.cube.Cube.{Cube}
use Rattle.cubes.specs.declared.refusal.NoCube.{NoCube}
use Rattle.scripts.specs.Cubing.{letters_only, inputs_of, lettered, dash, cube_of}

-- the mask of a few letters is small, and so is the next bit
pub small : (letter : ℕ) (bs : List ℕ) (i : ℕ) → i ≤ 16 → (inputs_of letter bs i < 65536) × (2 ^ i ≤ 65536)
small letter bs i h =
    let m = mask_of_lt (λ k. eqb (get_or bs k 0) letter) i in
    let p = pow_mono h in
    (omega arith, omega arith)

pub next_bit : (i : ℕ) → 2 ^ i * 2 ≡ 2 ^ (i + 1)
next_bit i = sym (ap (λ k. 2 ^ k) (add-one i) ∙ pow-suc 2 i)

-- the letter at the next place adds its bit where it is the one asked for
pub next_letter : (letter : ℕ) (bs : List ℕ) (i : ℕ) → inputs_of letter bs (i + 1) ≡ inputs_of letter bs i + cond (eqb (get_or bs i 0) letter) (2 ^ i) 0
next_letter letter bs i = ap (inputs_of letter bs) (add-one i)

pub has_letter : (letter : ℕ) (bs : List ℕ) (i : ℕ) → get_or bs i 0 ≡ letter → inputs_of letter bs (i + 1) ≡ inputs_of letter bs i + 2 ^ i
has_letter letter bs i e = next_letter letter bs i ∙ ap (λ t. inputs_of letter bs i + cond t (2 ^ i) 0) (eq-eqb (get_or bs i 0) letter e)

pub has_other : (letter : ℕ) (bs : List ℕ) (i : ℕ) → (get_or bs i 0 ≡ letter → ⊥) → inputs_of letter bs (i + 1) ≡ inputs_of letter bs i + 0
has_other letter bs i e = next_letter letter bs i ∙ ap (λ t. inputs_of letter bs i + cond t (2 ^ i) 0) (ne_eqb (get_or bs i 0) letter e)

-- a bit put on top of a mask
bit_on : (m i : ℕ) (b : Bool) → i < 16 → m < 2 ^ i → bit_or m (from_bool b * 2 ^ i % 2 ^ 16) ≡ m + cond b (2 ^ i) 0
bit_on m i true h l = ap (bit_or m) (one_shl i 16 h) ∙ or_add m i l
bit_on m i false h l = rw (zero-mul, zero-mod, add-zero) (or_zero_r m)

pub one_more : (letter : ℕ) (bs : List ℕ) (m i n : ℕ) → i < 16 → m ≡ inputs_of letter bs i → n ≡ from_bool (eqb (get_or bs i 0) letter) → bit_or m (n * 2 ^ i % 2 ^ 16) ≡ inputs_of letter bs (i + 1)
one_more letter bs m i n h e f =
    let l = mask_of_lt (λ k. eqb (get_or bs k 0) letter) i in
    let k : m < 2 ^ i = omega arith in
    rw (f, bit_on m i (eqb (get_or bs i 0) letter) h k, e) (sym (next_letter letter bs i))

pub made_cube : (z o : ℕ) (r : Result Cube NoCube) → Made z o r → result_ok r ≡ of_masks z o
made_cube z o (Ok cube) m = sym (of_masks_is z o cube m.0 m.1)
made_cube z o (Err e) m = search rules

pub lettered_cube : (w : List ℕ) (z o : ℕ) → (length w ≡ 0 → ⊥) → length w ≤ 16 → false ≡ dash w → true ≡ letters_only w → z ≡ inputs_of 48 w (length w) → o ≡ inputs_of 49 w (length w) → of_masks z o ≡ cube_of w
lettered_cube w z o some few no-dash letters zeros ones =
    let rest = cond (dash w) (of_masks 0 0) (lettered w) in
    let zs = inputs_of 48 w (length w) in
    let os = inputs_of 49 w (length w) in
    ap (λ m. of_masks m o) zeros ∙ ap (of_masks zs) ones
    ∙ sym (ap (λ t. cond (t || ltb 16 (length w)) None rest) (ne_eqb (length w) 0 some)
    ∙ ap (λ t. cond t None rest) (le-ltb 16 (length w) few)
    ∙ ap (λ t. cond t (of_masks 0 0) (lettered w)) (sym no-dash)
    ∙ ap (λ t. cond t (of_masks zs os) None) (sym letters))
