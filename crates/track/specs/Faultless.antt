-- Data have no fault exactly where they make a track. Assumes nothing.
use Rattle.std.specs.Prelude.{◌≡◌, ℕ, zero, suc, ◌+◌, ◌<◌, List, [], ◌∷◌, length, None, slice_index_or, refl}
use Rattle.std.proofs.Common.{ap, ◌∙◌, arith}
use Rattle.std.proofs.lemmas.Bool.Decides.{nat_tests}
use Rattle.plant.specs.Options.{neither}
use Rattle.track.specs.declared.link.Link.{Link}
use Rattle.track.specs.Fault.{row_fault, before, rows_fault, fault}
use Rattle.track.specs.Data.{Joins, TrackData}

joins_from_none : (stations row : ℕ) (l : Link) → row_fault stations row l ≡ None → Joins stations l
joins_from_none stations row l e =
    record { one = grind (arith, nat_tests); other = grind (arith, nat_tests); different = λ s. grind (arith, nat_tests) }

rows_from_none : (stations row : ℕ) (ls : List Link) → rows_fault stations row ls ≡ None → (i : ℕ) (d : Link) → i < length ls → Joins stations (slice_index_or ls i d)
rows_from_none stations row [] e i d h = absurd (omega arith)
rows_from_none stations row (l ∷ ls) e zero d h = joins_from_none stations row l (neither _ _ e).0
rows_from_none stations row (l ∷ ls) e (suc i) d h = rows_from_none stations (row + 1) ls (neither _ _ e).1 i d (omega arith)

-- what has no fault makes a track
pub data_from_none : (stations : ℕ) (ls : List Link) → fault stations ls ≡ None → TrackData stations ls
data_from_none stations ls e =
    let rows : rows_fault stations 0 ls ≡ None = grind (arith, nat_tests) in
    record {
      stations_some = grind (arith, nat_tests);
      stations_most = grind (arith, nat_tests);
      links_most = grind (arith, nat_tests);
      joins = rows_from_none stations 0 ls rows;
    }

none_of_row : (stations row : ℕ) (l : Link) → Joins stations l → row_fault stations row l ≡ None
none_of_row stations row l k = grind (arith, nat_tests)

none_of_rows : (stations row : ℕ) (ls : List Link) → ((i : ℕ) (d : Link) → i < length ls → Joins stations (slice_index_or ls i d)) → rows_fault stations row ls ≡ None
none_of_rows stations row [] each = refl
none_of_rows stations row (l ∷ ls) each =
    ap (λ x. before x (rows_fault stations (row + 1) ls)) (none_of_row stations row l (each 0 l (omega arith)))
    ∙ none_of_rows stations (row + 1) ls (λ i d h. each (suc i) d (omega arith))

-- what makes a track has no fault
pub none_from_data : (stations : ℕ) (ls : List Link) → TrackData stations ls → fault stations ls ≡ None
none_from_data stations ls k =
    let rows = none_of_rows stations 0 ls k.joins in
    grind (arith, nat_tests)
