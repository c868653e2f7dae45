-- What a tagged plant means: no step by a tagged operation, and all else as below. Assumes nothing.
use Rattle.std.specs.Prelude.{Bool, cond, List, None}
use Rattle.plant.specs.Meaning.{Meaning}
use Rattle.tagged.specs.Tags.{bears}

abbrev pub tagged : Meaning → List Bool → Meaning
tagged m tags = record {
  settings = m.settings;
  operations = m.operations;
  step = λ s o. cond (bears m tags o) None (m.step s o);
  reverse = m.reverse;
  estimate = m.estimate;
}
