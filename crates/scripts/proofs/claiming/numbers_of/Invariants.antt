use Rattle.std.proofs.Common.{◌≡◌, ◌++◌, drop, vec_items}
use Rattle.scripts.specs.Words.{texts}
use Rattle.scripts.specs.Lines.{of_one}
use Rattle.scripts.specs.Scripts.{all_numbers}
use Rattle.scripts.proofs.claiming.numbers_of.Given as goal

abbrev pub invariant-loop-word : goal.invariant-loop-word
invariant-loop-word l = all_numbers (texts l.duties) ≡ of_one (λ ns. vec_items l.numbers ++ ns) (all_numbers (drop l.word-index (texts l.duties)))
