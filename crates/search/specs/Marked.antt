-- Marks in lent memory: one bit for each setting, 32 to a number. Assumes nothing.
use Rattle.std.specs.Prelude.{◌≡◌, ℕ, ◌/◌, ◌%◌, ◌^◌, ◌<◌, List, length, ◌==◌, bit_xor, slice_index, slice_set}
use Rattle.legs.specs.Layers.{has}
use Rattle.legs.specs.Laws.{Distinct}
use Rattle.search.specs.declared.marks.Marks.{Marks}

-- the mark of a setting, 1 or 0
unfoldable pub mark_of : List ℕ → ℕ → ℕ
mark_of memory u = slice_index memory (u / 32) / 2 ^ (u % 32) % 2

-- the memory with the mark of a setting turned over
abbrev pub turned : List ℕ → ℕ → List ℕ
turned memory u = slice_set memory (u / 32) (bit_xor (slice_index memory (u / 32)) (2 ^ (u % 32)))

-- these settings, none of them twice, are marked, and no others that the memory has a mark for
pub record Marked (memory : List ℕ) (ss : List ℕ) : Type 0 where
  pub once : Distinct ss
  pub tells : (u : ℕ) → u / 32 < length memory → (mark_of memory u == 1) ≡ has ss u

abbrev pub Follows : Marks → List ℕ → Type 0
Follows m ss = Marked m.memory.now ss
