-- The interlocks of a body, read four bytes by four where they lie. Assumes nothing.
use Rattle.std.proofs.Common.{◌≡◌, ℕ, ◌+◌, ◌/◌, ◌<◌, ◌≤◌, List, map, length, get_or, drop, Some, None, sym, ap, ◌∙◌, add-one}
use Rattle.std.specs.Simd.{first_chunks}
use Rattle.std.proofs.lemmas.List.{length-map, drop_more, drop_all}
use Rattle.valves.specs.declared.interlock.Interlock.{Interlock}
use Rattle.valves.specs.declared.fault.BenchFault.{BenchFault}
use Rattle.valves.specs.Faults.{either_fault, interlock_fault, interlocks_fault, sizes_fault, bench_fault}
use Rattle.valves.proofs.Parts.{sizes_wrong, sizes_right}
use Rattle.plant_bodies.specs.Rows.{interlock, interlock_alone}
use Rattle.plant_bodies.specs.BenchRule.{interlocks_in}
use Rattle.plant_bodies.proofs.RowByRow.{rows_fours}

module _ (ns rows : List ℕ) (fours : List (List ℕ)) (are : fours ≡ first_chunks 4 (length rows / 4) rows) where
  locks_are : map interlock fours ≡ interlocks_in (length rows / 4) rows
  locks_are = ap (map interlock) are ∙ rows_fours interlock interlock_alone (length rows / 4) rows

  many : length fours ≡ length (interlocks_in (length rows / 4) rows)
  many = sym (length-map fours interlock) ∙ ap length locks_are

  -- what is wrong before the interlocks is the fault
  pub size_wrong : (f : BenchFault) → Some f ≡ sizes_fault ns (length fours) → Some f ≡ bench_fault ns (interlocks_in (length rows / 4) rows)
  size_wrong f e = sizes_wrong ns (length fours) (interlocks_in (length rows / 4) rows) many f e

  -- else the fours tell
  pub fours_begun : None ≡ sizes_fault ns (length fours) → interlocks_fault ns (map interlock fours) 0 ≡ bench_fault ns (interlocks_in (length rows / 4) rows)
  fours_begun e = ap (λ ls. interlocks_fault ns ls 0) locks_are ∙ sizes_right ns (length fours) (interlocks_in (length rows / 4) rows) many e

module _ (ns : List ℕ) (r : ℕ) (fours : List (List ℕ)) where
  -- the next four, and those behind it
  next : (d : List ℕ) → r < length fours →
      either_fault (interlock_fault ns (interlock (get_or fours r d)) r) (interlocks_fault ns (map interlock (drop (r + 1) fours)) (r + 1)) ≡ interlocks_fault ns (map interlock (drop r fours)) r
  next d h =
      ap (λ k. either_fault (interlock_fault ns (interlock (get_or fours r d)) r) (interlocks_fault ns (map interlock (drop (r + 1) fours)) k)) (add-one r)
      ∙ sym (ap (λ xs. interlocks_fault ns (map interlock xs) r) (drop_more fours r d h))

  pub four_right : (d : List ℕ) (l : Interlock) → r < length fours → l ≡ interlock (get_or fours r d) → None ≡ interlock_fault ns l r →
      interlocks_fault ns (map interlock (drop (r + 1) fours)) (r + 1) ≡ interlocks_fault ns (map interlock (drop r fours)) r
  four_right d l h p e =
      ap (λ o. either_fault o (interlocks_fault ns (map interlock (drop (r + 1) fours)) (r + 1))) (e ∙ ap (λ x. interlock_fault ns x r) p) ∙ next d h
