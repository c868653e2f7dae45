-- A plant without its estimate is lawful where the plant is: an estimate of 0 is never too high. Assumes nothing.
use Rattle.std.specs.Prelude.{ℕ, refl}
use Rattle.std.proofs.Common.{arith}
use Rattle.plant.specs.Meaning.{Meaning}
use Rattle.plant.specs.Laws.{Lawful}
use Rattle.search_tests.specs.Unguided.{unguided}

pub unguided_lawful : (m : Meaning) → Lawful m → Lawful (unguided m)
unguided_lawful m l = record {
  settings_some = l.settings_some;
  settings_most = l.settings_most;
  operations_most = l.operations_most;
  estimate_most = λ s t. omega arith;
  step_within = l.step_within;
  reverse_within = l.reverse_within;
  setting_past = l.setting_past;
  operation_past = l.operation_past;
  reverse_past = l.reverse_past;
  start_past = λ s t h. refl;
  target_past = λ s t h. refl;
  reverse_twice = l.reverse_twice;
  steps_back = l.steps_back;
  estimate_least = λ os s t leads. omega arith;
}
