-- The number of each refusal. Assumes nothing.
use Rattle.std.specs.Prelude.{ℕ}
use Rattle.plant.specs.declared.refusal.Refusal.{Refusal}
use Rattle.plant.specs.declared.refusal.Refusal.TheVariants.{NoSuchOperation, TaggedAlready, Untagged, NoSuchSetting, Bound, Overfull, OutOfReach, NoList, WrongOperation}

abbrev pub number : Refusal → ℕ
number NoSuchOperation = 1
number TaggedAlready = 2
number Untagged = 3
number NoSuchSetting = 4
number Bound = 5
number Overfull = 6
number OutOfReach = 7
number NoList = 8
number WrongOperation = 9
