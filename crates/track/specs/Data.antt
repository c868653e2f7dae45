-- Which data make a track, in the words of the subject. Assumes nothing.
use Rattle.std.specs.Prelude.{◌≡◌, ℕ, ◌<◌, ◌≤◌, List, length, slice_index_or}
use Rattle.track.specs.declared.link.Link.{Link}

-- a link between two different stations that exist
pub record Joins (stations : ℕ) (l : Link) : Type 0 where
  pub one : l.one < stations
  pub other : l.other < stations
  pub different : l.one ≡ l.other → ⊥

-- 1 to 512 stations, and at most 1,024 links
pub record TrackData (stations : ℕ) (links : List Link) : Type 0 where
  pub stations_some : 1 ≤ stations
  pub stations_most : stations ≤ 512
  pub links_most : length links ≤ 1024
  pub joins : (r : ℕ) (d : Link) → r < length links → Joins stations (slice_index_or links r d)
