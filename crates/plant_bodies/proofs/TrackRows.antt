-- The fault of a track's body is found row by row. Assumes nothing.
use Rattle.std.proofs.Common.{◌≡◌, ℕ, suc, ◌+◌, Bool, true, false, cond, not, ◌||◌, eqb, ltb, leb, List, [], ◌∷◌, length, drop, Some, None, Option, sym, refl, ap, ◌∙◌, inl, inr, add-one, arith}
use Rattle.std.specs.Option.{option_map}
use Rattle.std.proofs.lemmas.Bool.{cases_eq, eq-eqb, ne_eqb, lt-ltb, le-ltb}
use Rattle.track.specs.declared.link.Link.{Link}
use Rattle.track.specs.declared.link.TrackFault.{TrackFault}
use Rattle.track.specs.declared.link.TrackFault.TheVariants as track
use Rattle.track.specs.Fault.{before, row_fault, rows_fault}
use Rattle.plant_bodies.specs.declared.track_body.TrackBodyFault.TheVariants.{Length, Track}
use Rattle.plant_bodies.specs.Rows.{link}
use Rattle.plant_bodies.specs.TrackRule.{stations_in, link_count, body_links, track_long, track_fault}
use Rattle.plant_bodies.specs.TrackRows.{link_fault, either_fault, links_fault, row_by_row}
use Rattle.plant_bodies.proofs.RowByRow.{length_rows}

eqb_turned : (a b : ℕ) → eqb a b ≡ eqb b a
eqb_turned a b = elim (cases_eq a b) [ inl e ↦ eq-eqb a b e ∙ sym (eq-eqb b a (sym e)) | inr n ↦ ne_eqb a b n ∙ sym (ne_eqb b a (λ e. n (sym e))) ]

eqb_zero : (n : ℕ) → ltb n 1 ≡ eqb n 0
eqb_zero n = elim (cases_eq n 0) [ inl e ↦ lt-ltb n 1 (omega arith) ∙ sym (eq-eqb n 0 e) | inr w ↦ le-ltb n 1 (omega arith) ∙ sym (ne_eqb n 0 w) ]

-- a fault of the track, told of its body
told_test : (b : Bool) (f : TrackFault) (o : Option TrackFault) → option_map Track (cond b (Some f) o) ≡ cond b (Some (Track f)) (option_map Track o)
told_test true f o = refl
told_test false f o = refl

told_first : (a o : Option TrackFault) → option_map Track (before a o) ≡ either_fault (option_map Track a) (option_map Track o)
told_first None o = refl
told_first (Some f) o = refl

-- one link
told_row : (n r : ℕ) (l : Link) → link_fault n l r ≡ option_map Track (row_fault n r l)
told_row n r l =
    sym (told_test (leb n l.one) (track.First r) _
    ∙ (ap (cond (leb n l.one) (Some (Track (track.First r)))) (told_test (leb n l.other) (track.Second r) _
    ∙ ap (cond (leb n l.other) (Some (Track (track.Second r)))) (told_test (eqb l.one l.other) (track.Same r) None
    ∙ ap (λ b. cond b (Some (Track (track.Same r))) None) (eqb_turned l.one l.other)))))

-- the links from row r on
told_rows : (n r : ℕ) (ls : List Link) → links_fault n ls r ≡ option_map Track (rows_fault n r ls)
told_rows n r [] = refl
told_rows n r (l ∷ ls) =
    ap (λ o. either_fault o (links_fault n ls (suc r))) (told_row n r l)
    ∙ (ap (either_fault (option_map Track (row_fault n r l))) (ap (links_fault n ls) (sym (add-one r)) ∙ told_rows n (r + 1) ls)
    ∙ sym (told_first (row_fault n r l) (rows_fault n (r + 1) ls)))

-- a body has the fault that is found row by row
pub track_by_rows : (bs : List ℕ) → row_by_row bs ≡ track_fault bs
track_by_rows bs =
    let n = stations_in bs in
    let ls = body_links bs in
    ap (cond (not (track_long bs)) (Some Length))
    (ap (λ b. cond (b || ltb 512 n) (Some (Track track.Stations)) (cond (ltb 1024 (link_count bs)) (Some (Track track.Links)) (links_fault n ls 0))) (eqb_zero n)
    ∙ (ap (λ k. cond (eqb n 0 || ltb 512 n) (Some (Track track.Stations)) (cond (ltb 1024 k) (Some (Track track.Links)) (links_fault n ls 0))) (sym (length_rows link (link_count bs) (drop 4 bs)))
    ∙ (ap (λ o. cond (eqb n 0 || ltb 512 n) (Some (Track track.Stations)) (cond (ltb 1024 (length ls)) (Some (Track track.Links)) o)) (told_rows n 0 ls)
    ∙ sym (told_test (eqb n 0 || ltb 512 n) track.Stations _ ∙ ap (cond (eqb n 0 || ltb 512 n) (Some (Track track.Stations))) (told_test (ltb 1024 (length ls)) track.Links (rows_fault n 0 ls))))))
