-- What is wrong first with the body of a track, written out row by row. Assumes nothing.
use Rattle.std.specs.Prelude.{ℕ, suc, ◌+◌, ◌*◌, cond, not, ◌||◌, List, [], ◌∷◌, length, Some, None, Option, ◌==◌, nat_le, nat_lt}
use Rattle.track.specs.declared.link.Link.{Link}
use Rattle.track.specs.declared.link.TrackFault.TheVariants as track
use Rattle.plant_bodies.specs.declared.track_body.TrackBodyFault.{TrackBodyFault}
use Rattle.plant_bodies.specs.declared.track_body.TrackBodyFault.TheVariants.{Length, Track}
use Rattle.plant_bodies.specs.TrackRule.{stations_in, link_count, body_links}

-- the stations of a link are below n, and two: link r
abbrev pub link_fault : ℕ → Link → ℕ → Option TrackBodyFault
link_fault n l r =
    cond (nat_le n l.one) (Some (Track (track.First r)))
    (cond (nat_le n l.other) (Some (Track (track.Second r)))
    (cond (l.other == l.one) (Some (Track (track.Same r))) None))

abbrev pub either_fault : Option TrackBodyFault → Option TrackBodyFault → Option TrackBodyFault
either_fault None g = g
either_fault (Some f) g = Some f

-- the links from link r on
abbrev pub links_fault : ℕ → List Link → ℕ → Option TrackBodyFault
links_fault n [] r = None
links_fault n (l ∷ ls) r = either_fault (link_fault n l r) (links_fault n ls (suc r))

-- its length by its own count, stations, links, then each link in order
abbrev pub row_by_row : List ℕ → Option TrackBodyFault
row_by_row bs =
    cond (not (length bs == 4 + 4 * link_count bs)) (Some Length)
    (cond (nat_lt (stations_in bs) 1 || nat_lt 512 (stations_in bs)) (Some (Track track.Stations))
    (cond (nat_lt 1024 (link_count bs)) (Some (Track track.Links))
    (links_fault (stations_in bs) (body_links bs) 0)))
