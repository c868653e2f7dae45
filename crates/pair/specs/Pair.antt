-- The two plants of a pair. Assumes nothing.
use Rattle.plant.specs.declared.plant.Plant.{Ghosts}
use Rattle.pair.specs.declared.pair.Pair.{Pair}

abbrev pub first_of : {F S : Type 0} {f : Ghosts F} {s : Ghosts S} → Pair F S f s → F
first_of x = x.first

abbrev pub second_of : {F S : Type 0} {f : Ghosts F} {s : Ghosts S} → Pair F S f s → S
second_of x = x.second
