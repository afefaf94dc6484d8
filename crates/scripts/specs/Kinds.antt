-- The words that name the kinds of goal.
use Rattle.std.specs.Prelude.{ℕ, cond, List, Some, None, codes, Option}
use Rattle.std.specs.Str.{bytes_eq}
use Rattle.scripts.specs.declared.kind.Kind.{Kind}
use Rattle.scripts.specs.declared.kind.Kind.TheVariants.{Detect, Tell, Both}

abbrev pub kind_of : List ℕ → Option Kind
kind_of w = cond (bytes_eq w (codes "detect")) (Some Detect) (cond (bytes_eq w (codes "tell")) (Some Tell) (cond (bytes_eq w (codes "both")) (Some Both) None))
