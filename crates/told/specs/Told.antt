-- The words that tell an answer. Assumes nothing.
use Rattle.std.specs.Prelude.{ℕ, List, ◌++◌, Ok, Err, Result, codes}
use Rattle.std.specs.Fmt.{decimal}
use Rattle.plant.specs.declared.refusal.Refusal.{Refusal}
use Rattle.plant.specs.Refusals.{number}

abbrev pub told : Result Unit Refusal → List ℕ
told (Ok _) = codes "accepted"
told (Err e) = codes "refused " ++ decimal (number e)
