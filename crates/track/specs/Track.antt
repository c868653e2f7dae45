-- What a track means, and what making one answers. Assumes nothing.
use Rattle.std.specs.Prelude.{◌≡◌, ℕ, cond, ◌&&◌, List, length, take, Some, None, Ok, Err, Option, Result, ◌==◌, nat_lt}
use Rattle.std.specs.List.{slice_get}
use Rattle.plant.specs.Meaning.{Meaning}
use Rattle.track.specs.declared.link.Link.{Link}
use Rattle.track.specs.declared.link.TrackFault.{TrackFault}
use Rattle.track.specs.declared.track.Track.{Track}
use Rattle.track.specs.Fault.{fault}

-- along a link, from either end to the other
abbrev pub along : Option Link → ℕ → Option ℕ
along (Some link) s =
    cond (s == link.one) (Some link.other)
    (cond (s == link.other) (Some link.one) None)
along None s = None

-- stations are 0 apart from themselves, and at least 1 from every other
abbrev pub apart : ℕ → ℕ → ℕ → ℕ
apart stations s t = cond (nat_lt s stations && nat_lt t stations) (cond (s == t) 0 1) 0

-- the track of these stations and links: operation r goes along link r, and leads back too
abbrev pub track : ℕ → List Link → Meaning
track stations links = record {
  settings = stations;
  operations = length links;
  step = λ s r. along (slice_get links r) s;
  reverse = λ r. r;
  estimate = apart stations;
}

-- the links of a track, in the order of their operations
abbrev pub links_of : Track → List Link
links_of t = take t.count t.links

abbrev pub meaning_of : Track → Meaning
meaning_of t = track t.stations (links_of t)

-- a track of these stations and links, which have no fault
pub record Made (stations : ℕ) (links : List Link) (t : Track) : Type 0 where
  pub faultless : fault stations links ≡ None
  pub means : meaning_of t ≡ track stations links
  pub links_are : links_of t ≡ links

-- the track where there is no fault, and else the fault
abbrev pub Makes : ℕ → List Link → Result Track TrackFault → Type 0
Makes stations links (Ok t) = Made stations links t
Makes stations links (Err f) = fault stations links ≡ Some f
