-- A device with outputs out of sight.
use Rattle.std.specs.Prelude.{ℕ, bit_and}
use Rattle.devices.specs.Devices.{Meaning}
use Rattle.devices.specs.declared.answer.Answer.{Answer}

-- the answer with the outputs outside the mask unknown
abbrev pub kept : ℕ → Answer → Answer
kept mask a = record { zeros = bit_and a.zeros mask; ones = bit_and a.ones mask }

-- the same device, of which only the outputs in the mask are seen
abbrev pub masked : Meaning → ℕ → Meaning
masked m mask = record { inputs = m.inputs; outputs = m.outputs; machines = m.machines; answer = λ k c. kept mask (m.answer k c) }
