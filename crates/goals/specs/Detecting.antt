-- Detection: duty d is covered by what tells the good card from machine d + 1; all duties are wanted.
use Rattle.std.specs.Prelude.{◌+◌, ◌-◌, ◌&&◌, nat_lt}
use Rattle.devices.specs.Devices as device
use Rattle.devices.specs.Devices.{told_apart}
use Rattle.goals.specs.Goals.{Meaning}

abbrev pub detection : device.Meaning → Meaning
detection m = record {
  inputs = m.inputs;
  duties = m.machines - 1;
  wanted = λ d. nat_lt d (m.machines - 1);
  covers = λ c d. nat_lt d (m.machines - 1) && told_apart (m.answer 0 c) (m.answer (d + 1) c);
}
