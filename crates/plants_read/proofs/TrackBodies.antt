-- What no fault of a body says of the track that it describes. Assumes nothing.
use Rattle.std.proofs.Common.{◌≡◌, ℕ, ◌+◌, ◌*◌, ◌≤◌, Bool, true, false, cond, not, eqb, List, length, is_some, Some, None, Ok, Err, Option, Result, sym, subst, refl, ap, ◌∙◌, take_all, arith}
use Rattle.std.specs.Option.{option_map}
use Rattle.std.specs.Result.{result_ok}
use Rattle.std.proofs.lemmas.Bool.{ltb-false}
use Rattle.track.specs.declared.link.Link.{Link}
use Rattle.track.specs.declared.link.TrackFault.{TrackFault}
use Rattle.track.specs.declared.track.Track.{Track}
use Rattle.track.specs.Track.{Made, Makes, track as track-plant}
use Rattle.track.specs.Fault.{fault}
use Rattle.plant_bodies.specs.declared.track_body.TrackBodyFault.TheVariants.{Length, Track as Wrong}
use Rattle.plant_bodies.specs.TrackRule.{stations_in, link_count, track_long, TrackSays, track_fault}
use Rattle.plant_bodies.proofs.Tracks.{said_fault}
use Rattle.plants_read.proofs.Passed.{passed}
use Rattle.plants_read.specs.Tracks.{track_links, TrackMade, ReadsTrack}

-- its length by its own count, then the track's first fault
pub track_rule : (bs : List ℕ) →
    track_fault bs ≡ cond (not (eqb (length bs) (4 + 4 * link_count bs))) (Some Length) (option_map Wrong (fault (stations_in bs) (track_links bs)))
track_rule bs = refl

-- no fault of the body is none of the plant
pub track_faultless : (bs : List ℕ) → None ≡ track_fault bs → fault (stations_in bs) (track_links bs) ≡ None
track_faultless bs e = passed (track_long bs) Length Wrong (fault (stations_in bs) (track_links bs)) (e ∙ track_rule bs)

-- at most 1,024 links
test_passed : (b : Bool) (f : TrackFault) (o : Option TrackFault) → cond b (Some f) o ≡ None → (b ≡ false) × (o ≡ None)
test_passed true f o e = cc
test_passed false f o e = (refl, e)

links_most : (n : ℕ) (ls : List Link) → fault n ls ≡ None → length ls ≤ 1024
links_most n ls e = ltb-false 1024 (length ls) (test_passed _ _ _ (test_passed _ _ _ e).1).0

-- the parts make the track of the body
module _ (bs : List ℕ) (n : ℕ) (ls : List Link) (says : TrackSays bs n ls) where
  made : (t : Track) → Made n ls t → TrackMade bs t
  made t m =
      let right : track_fault bs ≡ None = sym (said_fault bs n ls says) ∙ ap (option_map Wrong) m.faultless in
      let few : length (track_links bs) ≤ 1024 = links_most (stations_in bs) (track_links bs) (track_faultless bs (sym right)) in
      let links : ls ≡ track_links bs = says.links ∙ take_all 1025 (track_links bs) (omega arith) in
      record {
        faultless = right;
        stations = ap (λ k. k.settings) m.means ∙ says.stations;
        links = m.links_are ∙ links;
        means = m.means ∙ (ap (λ k. track-plant k ls) says.stations ∙ ap (track-plant (stations_in bs)) links);
      }

  read_parts : (r : Result Track TrackFault) → Makes n ls r → ReadsTrack bs (result_ok r)
  read_parts (Ok t) m = made t m
  read_parts (Err f) m = ap is_some (sym (said_fault bs n ls says) ∙ ap (option_map Wrong) m)

-- from whatever holds them
pub read : (bs : List ℕ) (n : ℕ) (held ls : List Link) (r : Result Track TrackFault) → Makes n held r → TrackSays bs n ls → held ≡ ls → ReadsTrack bs (result_ok r)
read bs n held ls r m says same = read_parts bs n held (subst (TrackSays bs n) (sym same) says) r m
