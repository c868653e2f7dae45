-- The first thing that is wrong with the stations and links of a track, if anything. Assumes nothing.
use Rattle.std.specs.Prelude.{ℕ, ◌+◌, cond, ◌||◌, List, [], ◌∷◌, length, Some, None, Option, ◌==◌, nat_le, nat_lt}
use Rattle.std.specs.Option.{option_or}
use Rattle.track.specs.declared.link.Link.{Link}
use Rattle.track.specs.declared.link.TrackFault.{TrackFault}
use Rattle.track.specs.declared.link.TrackFault.TheVariants.{Stations, Links, First, Second, Same}

-- what is wrong with the link of a row: its first station, its second, or that the two are the same
abbrev pub row_fault : ℕ → ℕ → Link → Option TrackFault
row_fault stations row link =
    cond (nat_le stations link.one) (Some (First row))
    (cond (nat_le stations link.other) (Some (Second row))
    (cond (link.one == link.other) (Some (Same row)) None))

-- the first of two faults
abbrev pub before : Option TrackFault → Option TrackFault → Option TrackFault
before = option_or

-- the first fault of the links, whose rows are numbered from the given one on
abbrev pub rows_fault : ℕ → ℕ → List Link → Option TrackFault
rows_fault stations row [] = None
rows_fault stations row (link ∷ links) = before (row_fault stations row link) (rows_fault stations (row + 1) links)

-- what is wrong with the number of stations, or else with the number of links
abbrev pub counts_fault : ℕ → ℕ → Option TrackFault
counts_fault stations links =
    cond (stations == 0 || nat_lt 512 stations) (Some Stations)
    (cond (nat_lt 1024 links) (Some Links) None)

-- 1 to 512 stations, then at most 1,024 links, then the links row by row from 0
abbrev pub fault : ℕ → List Link → Option TrackFault
fault stations links =
    cond (stations == 0 || nat_lt 512 stations) (Some Stations)
    (cond (nat_lt 1024 (length links)) (Some Links)
    (rows_fault stations 0 links))
