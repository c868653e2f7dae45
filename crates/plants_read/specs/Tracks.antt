-- The track that a body describes, and what making it answers. Assumes nothing.
use Rattle.std.specs.Prelude.{◌≡◌, ℕ, true, List, is_some, Some, None, Option}
use Rattle.plant.specs.Meaning.{Meaning}
use Rattle.track.specs.declared.link.Link.{Link}
use Rattle.track.specs.declared.track.Track.{Track}
use Rattle.track.specs.Track.{track, links_of, meaning_of}
use Rattle.plant_bodies.specs.TrackRule.{stations_in, body_links, track_fault}

-- the links of a body are those of its track
abbrev pub track_links : List ℕ → List Link
track_links bs = body_links bs

-- the plant that the bytes of a body describe
abbrev pub track_described : List ℕ → Meaning
track_described bs = track (stations_in bs) (track_links bs)

-- a track of just the stations and links of a body, which has no fault
pub record TrackMade (bs : List ℕ) (t : Track) : Type 0 where
  pub faultless : track_fault bs ≡ None
  pub stations : t.stations ≡ stations_in bs
  pub links : links_of t ≡ track_links bs
  pub means : meaning_of t ≡ track_described bs

-- the track where the body has no fault, and none where it has one
abbrev pub ReadsTrack : List ℕ → Option Track → Type 0
ReadsTrack bs (Some t) = TrackMade bs t
ReadsTrack bs None = is_some (track_fault bs) ≡ true
