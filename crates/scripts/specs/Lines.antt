-- What one line of a script asks, by its words.
use Rattle.std.specs.Prelude.{ℕ, Bool, true, cond, ◌||◌, List, [], length, Some, None, codes, Option, ◌==◌, slice_index, slice_index_or}
use Rattle.std.specs.Str.{bytes_eq}
use Rattle.sheets.specs.declared.call.Call.TheVariants as call
use Rattle.scripts.specs.declared.script.Line.{Line}
use Rattle.scripts.specs.declared.script.Line.TheVariants as line
use Rattle.scripts.specs.declared.script.Verb.{Verb}
use Rattle.scripts.specs.declared.script.Verb.TheVariants.{Excuse, Enter, Cover, Pull, Back, Strike, Exchange, Join, Sweep, Claim}
use Rattle.scripts.specs.Numerals.{number_of, serial_of}
use Rattle.scripts.specs.Cubing.{cube_of}

-- a line is passed over that has no word, or whose first word begins with #
abbrev pub passed_over : List ℕ → Bool
passed_over w = length w == 0 || slice_index w 0 == 35

-- the verb that a word is
abbrev pub verb_of : List ℕ → Option Verb
verb_of w =
    cond (bytes_eq w (codes "excuse")) (Some Excuse)
    (cond (bytes_eq w (codes "enter")) (Some Enter)
    (cond (bytes_eq w (codes "cover")) (Some Cover)
    (cond (bytes_eq w (codes "pull")) (Some Pull)
    (cond (bytes_eq w (codes "back")) (Some Back)
    (cond (bytes_eq w (codes "strike")) (Some Strike)
    (cond (bytes_eq w (codes "exchange")) (Some Exchange)
    (cond (bytes_eq w (codes "join")) (Some Join)
    (cond (bytes_eq w (codes "sweep")) (Some Sweep)
    (cond (bytes_eq w (codes "claim")) (Some Claim) None)))))))))

-- how many words a line with a verb may have, the verb among them
abbrev pub takes : Verb → ℕ → Bool
takes Excuse n = n == 2
takes Enter n = n == 2
takes Cover n = n == 2
takes Pull n = n == 2
takes Back n = n == 2
takes Strike n = n == 2
takes Exchange n = n == 3
takes Join n = n == 3
takes Sweep n = n == 1
takes Claim n = true

-- what is made of one thing, or of two, where there are such
abbrev pub of_one : {X Y : Type 0} → (X → Y) → Option X → Option Y
of_one f None = None
of_one f (Some x) = Some (f x)

abbrev pub of_two : {X Y Z : Type 0} → (X → Y → Z) → Option X → Option Y → Option Z
of_two f None y = None
of_two f (Some x) y = of_one (f x) y

-- what a line with a verb asks, by the two words after it; a word that is not there is empty
abbrev pub asks : Verb → List ℕ → List ℕ → Option Line
asks Excuse a b = of_one line.Excuse (number_of a)
asks Enter a b = of_one (λ c. line.Do (call.Enter c)) (cube_of a)
asks Cover a b = of_one (λ d. line.Do (call.Cover d)) (number_of a)
asks Pull a b = of_one (λ s. line.Do (call.Pull s)) (serial_of a)
asks Back a b = of_one (λ s. line.Do (call.PutBack s)) (serial_of a)
asks Strike a b = of_one (λ s. line.Do (call.Strike s)) (serial_of a)
asks Exchange a b = of_two (λ s c. line.Do (call.Exchange s c)) (serial_of a) (cube_of b)
asks Join a b = of_two (λ s t. line.Do (call.Join s t)) (serial_of a) (serial_of b)
asks Sweep a b = Some (line.Do call.Sweep)
asks Claim a b = Some line.Claim

-- what the words ask, where the first is a verb
abbrev pub verb_asks : Option Verb → List (List ℕ) → Option Line
verb_asks None ws = None
verb_asks (Some v) ws = cond (takes v (length ws)) (asks v (slice_index_or ws 1 []) (slice_index_or ws 2 [])) None

-- what a line asks, by its words; none where it is not understood
abbrev pub line_of : List (List ℕ) → Option Line
line_of ws = cond (passed_over (slice_index_or ws 0 [])) (Some line.Nothing) (verb_asks (verb_of (slice_index_or ws 0 [])) ws)
