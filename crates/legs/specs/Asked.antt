-- The leg that a call is asked for. Assumes nothing.
use Rattle.legs.specs.Layers.{Leg}
use Rattle.legs.specs.declared.leg.Leg.{Leg as Asked}

abbrev pub asked : Asked → Leg
asked g = record { start = g.start; target = g.target; bound = g.bound }
