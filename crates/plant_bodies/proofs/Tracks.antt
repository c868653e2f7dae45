-- The checks of a track's body, where one link more than a track has is read at most. Assumes nothing.
use Rattle.std.proofs.Common.{◌≡◌, ℕ, ◌-◌, ◌*◌, ◌/◌, ◌<◌, ◌≤◌, true, cond, not, ◌||◌, eqb, ltb, List, length, take, drop, Some, sym, ap, ◌∙◌, arith, length-drop}
use Rattle.std.specs.Option.{option_map}
use Rattle.std.proofs.lemmas.List.{take_rest}
use Rattle.std.proofs.lemmas.Bool.{cond-true, lt-ltb, eq-eqb}
use Rattle.track.specs.declared.link.Link.{Link}
use Rattle.track.specs.declared.link.TrackFault.TheVariants as track
use Rattle.track.specs.Fault.{fault}
use Rattle.plant_bodies.specs.declared.track_body.TrackBodyFault.TheVariants.{Length, Track}
use Rattle.plant_bodies.specs.TrackRule.{links_in, stations_in, link_count, body_links, track_long, TrackSays, track_fault}
use Rattle.plant_bodies.proofs.Enough.{enough}

-- too many links are told by their number
many : (n : ℕ) (ls : List Link) → 1024 < length ls → fault n ls ≡ cond (eqb n 0 || ltb 512 n) (Some track.Stations) (Some track.Links)
many n ls h = ap (cond (eqb n 0 || ltb 512 n) (Some track.Stations)) (cond-true (ltb 1024 (length ls)) (Some track.Links) _ (lt-ltb 1024 (length ls) h))

-- so the first 1,025 have the fault of all
pub first_enough : (n : ℕ) (ls : List Link) → fault n (take 1025 ls) ≡ fault n ls
first_enough n ls = enough 1024 _ (fault n) (many n) ls

-- the fault of the parts is that of the body
pub said_fault : (bs : List ℕ) (n : ℕ) (ls : List Link) → TrackSays bs n ls → option_map Track (fault n ls) ≡ track_fault bs
said_fault bs n ls s =
    ap (option_map Track) (ap (λ k. fault k ls) s.stations ∙ (ap (fault (stations_in bs)) s.links ∙ first_enough (stations_in bs) (body_links bs)))
    ∙ sym (ap (λ b. cond (not b) (Some Length) (option_map Track (fault (stations_in bs) (body_links bs)))) s.long)

-- so is that of its rows, where it is as long as it says
pub parts_fault : (bs rows : List ℕ) (n m : ℕ) → 4 ≤ length bs → n ≡ stations_in bs → m ≡ link_count bs → rows ≡ take (length bs - 4) (drop 4 bs) → length rows ≡ 4 * m →
    option_map Track (fault n (links_in (length rows / 4) rows)) ≡ track_fault bs
parts_fault bs rows n m h p q s l =
    let behind : rows ≡ drop 4 bs = s ∙ take_rest bs 4 in
    let long : track_long bs ≡ true = eq-eqb (length bs) _ (omega (arith, l, q, ap length behind ∙ length-drop 4 bs)) in
    let count : length rows / 4 ≡ link_count bs = omega (arith, l, q) in
    ap (option_map Track)
    (ap (λ k. fault k (links_in (length rows / 4) rows)) p
    ∙ (ap (λ k. fault (stations_in bs) (links_in k rows)) count ∙ ap (λ xs. fault (stations_in bs) (links_in (link_count bs) xs)) behind))
    ∙ sym (ap (λ b. cond (not b) (Some Length) (option_map Track (fault (stations_in bs) (body_links bs)))) long)
