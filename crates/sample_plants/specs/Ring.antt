-- A ring of four stations, and a spur from station 2 to station 4. Assumes nothing.
use Rattle.std.specs.Prelude.{List, [], ◌∷◌}
use Rattle.track.specs.declared.link.Link.{Link}

abbrev pub links : List Link
links =
    record { one = 0; other = 1 } ∷ record { one = 1; other = 2 } ∷ record { one = 2; other = 3 } ∷ record { one = 3; other = 0 } ∷ record { one = 2; other = 4 } ∷ []
