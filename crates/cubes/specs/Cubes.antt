-- Cubes, vectors, refinement, the common refinement of two cubes, and letters.
use Rattle.std.specs.Prelude.{◌≡◌, ℕ, zero, suc, ◌-◌, ◌*◌, ◌/◌, ◌%◌, ◌^◌, ◌<◌, ◌≤◌, min, Bool, true, false, cond, ◌||◌, List, map, Some, None, Ok, Err, Option, Result, ◌==◌, bit_and, bit_or, refl}
use Rattle.std.proofs.Common.{◌∙◌, mod-lt, pow-suc, arith, eqb-true, pow_pos}
use Rattle.std.specs.Int.Bits.{and_step}
use Rattle.std.specs.List.{range_with_len}
use Rattle.cubes.specs.Masks.{most_inputs, bit, share}
use Rattle.cubes.specs.declared.cube.Cube.{Cube}
use Rattle.cubes.specs.declared.refusal.NoCube.{NoCube}
use Rattle.cubes.specs.declared.refusal.NoCube.TheVariants.{InputInBoth}
use Rattle.cubes.specs.declared.refusal.Clash.{Clash}

-- the number of a refusal
abbrev pub number : NoCube → ℕ
number InputInBoth = 12

-- a cube that has exactly these masks
abbrev pub HasMasks : ℕ → ℕ → Cube → Type 0
HasMasks zeros ones c = (c.zeros ≡ zeros) × (c.ones ≡ ones)

-- what making a cube from masks answers: the cube of these masks, or the refusal where an input is in both
abbrev pub Made : ℕ → ℕ → Result Cube NoCube → Type 0
Made zeros ones (Ok c) = HasMasks zeros ones c
Made zeros ones (Err e) = (share zeros ones ≡ true) × (e ≡ InputInBoth)

abbrev pub of_masks_by : (zeros ones : ℕ) (apart : Bool) → (bit_and zeros ones == 0) ≡ apart → Option Cube
of_masks_by z o true e = Some (record { zeros = z; ones = o; apart = eqb-true (bit_and z o) 0 e })
of_masks_by z o false e = None

-- the cube of two masks, none where an input is in both; rows hold plain masks, and this is their cube
abbrev pub of_masks : ℕ → ℕ → Option Cube
of_masks z o = of_masks_by z o (bit_and z o == 0) refl

-- a refines b: it has every 0 and every 1 of b
abbrev pub Refines : Cube → Cube → Type 0
Refines a b = (i : ℕ) → (bit b.zeros i ≡ 1 → bit a.zeros i ≡ 1) × (bit b.ones i ≡ 1 → bit a.ones i ≡ 1)

-- a and b say the same of each of the first n inputs
abbrev pub Agree : ℕ → Cube → Cube → Type 0
Agree n a b = (i : ℕ) → i < n → (bit a.zeros i ≡ bit b.zeros i) × (bit a.ones i ≡ bit b.ones i)

-- some input is 0 in one cube and 1 in the other
abbrev pub opposed : Cube → Cube → Bool
opposed a b = share a.zeros b.ones || share a.ones b.zeros

-- what uniting two cubes answers: the cube with every 0 and 1 of both, or a clash where they are opposed
abbrev pub United : Cube → Cube → Result Cube Clash → Type 0
United a b (Ok c) = (opposed a b ≡ false) × HasMasks (bit_or a.zeros b.zeros) (bit_or a.ones b.ones) c
United a b (Err _) = opposed a b ≡ true

-- the places below n that are not in v share none with v; it makes `vector` a cube
pub rest_apart : (n v : ℕ) → v < 2 ^ n → bit_and (2 ^ n - 1 - v) v ≡ 0
rest_apart zero v h = let e : v ≡ 0 = omega arith in rw e
rest_apart (suc n) v h =
    let p : 2 ^ suc n ≡ 2 ^ n * 2 = pow-suc 2 n in
    let q : (2 ^ suc n - 1 - v) / 2 ≡ 2 ^ n - 1 - v / 2 = omega arith in
    let m : min ((2 ^ suc n - 1 - v) % 2) (v % 2) ≡ 0 = omega arith in
    and_step (2 ^ suc n - 1 - v) v ∙ rw (q, m, rest_apart n (v / 2) (omega arith))

-- the vector of n inputs with number v: it knows inputs 0 to n-1 and nothing above, and its ones are v
-- (a number of n bits; of a larger one the bits above count for nothing, so that there is always a cube)
abbrev pub vector : ℕ → ℕ → Cube
vector n v = record { zeros = 2 ^ n - 1 - v % 2 ^ n; ones = v % 2 ^ n; apart = rest_apart n (v % 2 ^ n) (mod-lt v (pow_pos n)) }

-- there is a vector of n inputs with number v
abbrev pub IsVector : ℕ → ℕ → Type 0
IsVector n v = (n ≤ most_inputs) × (v < 2 ^ n)

-- what asking for a vector by its number answers
abbrev pub Numbered : ℕ → ℕ → Option Cube → Type 0
Numbered n v (Some c) = IsVector n v × (c ≡ vector n v)
Numbered n v None = IsVector n v → ⊥

-- the letter of input i of two masks: 0, 1 or X for unknown
abbrev pub letter_of : ℕ → ℕ → ℕ → ℕ
letter_of zeros ones i = cond (bit zeros i == 1) 48 (cond (bit ones i == 1) 49 88)

-- the letter of input i of a cube
abbrev pub letter : Cube → ℕ → ℕ
letter c i = letter_of c.zeros c.ones i

-- the letters of the first n inputs, input 0 first
abbrev pub letters : ℕ → Cube → List ℕ
letters n c = map (letter c) (range_with_len 0 n)
