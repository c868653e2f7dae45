-- What is wrong first with the body of a track: N and M in 16 bits, M links of two stations of 16 bits each. Assumes nothing.
use Rattle.std.specs.Prelude.{◌≡◌, ℕ, ◌+◌, ◌*◌, Bool, true, cond, not, List, length, take, drop, Some, Option, ◌==◌}
use Rattle.std.specs.Option.{option_map}
use Rattle.numbers.specs.Low.{value}
use Rattle.track.specs.declared.link.Link.{Link}
use Rattle.track.specs.declared.link.TrackFault.{TrackFault}
use Rattle.track.specs.declared.link.TrackFault.TheVariants as track
use Rattle.track.specs.Fault.{fault}
use Rattle.plant_bodies.specs.Rows.{rows_in, link}
use Rattle.plant_bodies.specs.declared.track_body.TrackBodyFault.{TrackBodyFault}
use Rattle.plant_bodies.specs.declared.track_body.TrackBodyFault.TheVariants.{Length, Track}

-- m links, one after another
abbrev pub links_in : ℕ → List ℕ → List Link
links_in m bs = rows_in link m bs

-- what the body counts
abbrev pub stations_in : List ℕ → ℕ
stations_in bs = value (take 2 bs)

abbrev pub link_count : List ℕ → ℕ
link_count bs = value (take 2 (drop 2 bs))

abbrev pub body_links : List ℕ → List Link
body_links bs = links_in (link_count bs) (drop 4 bs)

-- it is as long as its own count says
abbrev pub track_long : List ℕ → Bool
track_long bs = length bs == 4 + 4 * link_count bs

-- these are the number of stations and the first 1,025 links of a body of the right length
pub record TrackSays (bs : List ℕ) (n : ℕ) (ls : List Link) : Type 0 where
  pub long : track_long bs ≡ true
  pub stations : n ≡ stations_in bs
  pub links : ls ≡ take 1025 (body_links bs)

-- its length by its own count, then the track's first fault
abbrev pub track_fault : List ℕ → Option TrackBodyFault
track_fault bs =
    cond (not (track_long bs)) (Some Length)
    (option_map Track (fault (stations_in bs) (body_links bs)))

-- the byte of the body that a fault of the track names: the first one of the field, of two that clash the later
abbrev pub link_byte : TrackFault → ℕ
link_byte track.Stations = 0
link_byte track.Links = 2
link_byte (track.First r) = 4 + 4 * r
link_byte (track.Second r) = 6 + 4 * r
link_byte (track.Same r) = 6 + 4 * r

abbrev pub track_byte : TrackBodyFault → ℕ
track_byte Length = 0
track_byte (Track f) = link_byte f
