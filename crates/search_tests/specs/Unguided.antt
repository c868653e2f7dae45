-- A plant whose estimate is taken away. Assumes nothing.
use Rattle.std.specs.Prelude.{ℕ}
use Rattle.plant.specs.Meaning.{Meaning}
use Rattle.search_tests.specs.declared.unguided.Unguided.{Unguided}

-- the plant, with an estimate of 0 for any two settings
abbrev pub unguided : Meaning → Meaning
unguided m = record {
  settings = m.settings;
  operations = m.operations;
  step = m.step;
  reverse = m.reverse;
  estimate = λ s t. 0;
}

abbrev pub below_of : {P : Type 0} → Unguided P → P
below_of x = x.below
