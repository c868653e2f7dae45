-- The two parts of a tagged plant. Assumes nothing.
use Rattle.std.specs.Prelude.{Bool, List}
use Rattle.tagged.specs.declared.tagged.Tagged.{Tagged}

abbrev pub tags_of : {P : Type 0} → Tagged P → List Bool
tags_of x = x.tags

abbrev pub below_of : {P : Type 0} → Tagged P → P
below_of x = x.below
