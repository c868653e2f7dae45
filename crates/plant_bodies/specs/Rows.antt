-- The rows of a body, four bytes each, and what a row says. Assumes nothing.
use Rattle.std.specs.Prelude.{◌≡◌, ℕ, zero, suc, List, [], ◌∷◌, take, drop, slice_index, refl}
use Rattle.numbers.specs.Low.{value}
use Rattle.valves.specs.declared.interlock.Interlock.{Interlock}
use Rattle.track.specs.declared.link.Link.{Link}

-- n rows, one after another
abbrev pub rows_in : {R : Type 0} → (List ℕ → R) → ℕ → List ℕ → List R
rows_in said zero bs = []
rows_in said (suc n) bs = said bs ∷ rows_in said n (drop 4 bs)

-- the interlock in four bytes
abbrev pub interlock : List ℕ → Interlock
interlock bs = record { valve = slice_index bs 0; position = slice_index bs 1; other = slice_index bs 2; stands = slice_index bs 3 }

-- the two stations of a link
abbrev pub joins : ℕ → ℕ → Link
joins a b = record { one = a; other = b }

-- the link in four bytes
abbrev pub link : List ℕ → Link
link bs = joins (value (take 2 bs)) (value (take 2 (drop 2 bs)))

-- the four bytes that a list begins with, 0 where there is none
abbrev pub four : List ℕ → List ℕ
four bs = slice_index bs 0 ∷ (slice_index bs 1 ∷ (slice_index bs 2 ∷ (slice_index bs 3 ∷ [])))

-- these alone are looked at
pub interlock_alone : (bs : List ℕ) → interlock (four bs) ≡ interlock bs
interlock_alone bs = refl

pub link_alone : (bs : List ℕ) → link (four bs) ≡ link bs
link_alone [] = refl
link_alone (a ∷ []) = refl
link_alone (a ∷ (b ∷ [])) = refl
link_alone (a ∷ (b ∷ (c ∷ []))) = refl
link_alone (a ∷ (b ∷ (c ∷ (d ∷ bs)))) = refl
