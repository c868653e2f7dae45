-- Which data make a bench, in the words of the subject. Assumes nothing.
use Rattle.std.specs.Prelude.{◌≡◌, ℕ, ◌<◌, ◌≤◌, List, length, slice_index, slice_index_or}
use Rattle.valves.specs.declared.interlock.Interlock.{Interlock}

-- an interlock of two different valves that exist, at positions that they have
pub record Ranged (ns : List ℕ) (l : Interlock) : Type 0 where
  pub valve : l.valve < length ns
  pub position : l.position < slice_index ns l.valve
  pub other : l.other < length ns
  pub different : l.other ≡ l.valve → ⊥
  pub stands : l.stands < slice_index ns l.other

-- 1 to 12 valves of 2 to 4 positions each, and at most 32 interlocks
pub record BenchData (ns : List ℕ) (ls : List Interlock) : Type 0 where
  pub valves_some : 1 ≤ length ns
  pub valves_most : length ns ≤ 12
  pub two : (v : ℕ) → v < length ns → 2 ≤ slice_index ns v
  pub four : (v : ℕ) → v < length ns → slice_index ns v ≤ 4
  pub rows_most : length ls ≤ 32
  pub ranged : (r : ℕ) (d : Interlock) → r < length ls → Ranged ns (slice_index_or ls r d)
