-- The links of a body, read four bytes by four where they lie. Assumes nothing.
use Rattle.std.proofs.Common.{◌≡◌, ℕ, ◌/◌, List, map, length, Some, None, sym, ap, ◌∙◌}
use Rattle.std.specs.Simd.{first_chunks}
use Rattle.std.proofs.lemmas.List.{length-map}
use Rattle.track.specs.declared.link.TrackFault.{TrackFault}
use Rattle.track.specs.Fault.{rows_fault, counts_fault, fault}
use Rattle.track.proofs.Counts.{counts_wrong, counts_right}
use Rattle.plant_bodies.specs.Rows.{link, link_alone}
use Rattle.plant_bodies.specs.TrackRule.{links_in}
use Rattle.plant_bodies.proofs.RowByRow.{rows_fours}

module _ (n : ℕ) (rows : List ℕ) (fours : List (List ℕ)) (are : fours ≡ first_chunks 4 (length rows / 4) rows) where
  links_are : map link fours ≡ links_in (length rows / 4) rows
  links_are = ap (map link) are ∙ rows_fours link link_alone (length rows / 4) rows

  many : length fours ≡ length (links_in (length rows / 4) rows)
  many = sym (length-map fours link) ∙ ap length links_are

  -- a count that is wrong is the fault
  pub count_wrong : (f : TrackFault) → Some f ≡ counts_fault n (length fours) → Some f ≡ fault n (links_in (length rows / 4) rows)
  count_wrong f e = counts_wrong n (length fours) (links_in (length rows / 4) rows) f many e

  -- else the fours tell
  pub fours_begun : None ≡ counts_fault n (length fours) → rows_fault n 0 (map link fours) ≡ fault n (links_in (length rows / 4) rows)
  fours_begun e = ap (rows_fault n 0) links_are ∙ counts_right n (length fours) (links_in (length rows / 4) rows) many e
