-- The numbering of settings: with n0, n1, .. positions and the valves at p0, p1, .., the setting is
-- p0 + n0 * (p1 + n1 * (p2 + ..)). Assumes nothing.
use Rattle.std.specs.Prelude.{◌≡◌, ℕ, zero, suc, ◌+◌, ◌-◌, ◌*◌, ◌/◌, ◌%◌, ◌<◌, List, [], ◌∷◌}

-- how many settings there are
abbrev pub product : List ℕ → ℕ
product [] = 1
product (n ∷ ns) = n * product ns

-- the setting at which the valves stand at these positions
abbrev pub setting : List ℕ → List ℕ → ℕ
setting [] ps = 0
setting (n ∷ ns) [] = 0
setting (n ∷ ns) (p ∷ ps) = p + n * setting ns ps

-- the positions of the valves at a setting
abbrev pub positions : List ℕ → ℕ → List ℕ
positions [] s = []
positions (n ∷ ns) s = s % n ∷ positions ns (s / n)

-- what one position of valve v adds to the setting
abbrev pub weight : List ℕ → ℕ → ℕ
weight ns zero = 1
weight [] (suc v) = 1
weight (n ∷ ns) (suc v) = n * weight ns v

-- each valve stands at a position that it has
abbrev pub Within : List ℕ → List ℕ → Type 0
Within [] [] = Unit {0}
Within [] (p ∷ ps) = ⊥
Within (n ∷ ns) [] = ⊥
Within (n ∷ ns) (p ∷ ps) = (p < n) × Within ns ps

-- the sum of the differences of position
abbrev pub apart : List ℕ → List ℕ → ℕ
apart [] qs = 0
apart (p ∷ ps) [] = 0
apart (p ∷ ps) (q ∷ qs) = ((p - q) + (q - p)) + apart ps qs

-- settings and positions determine each other
pub record Numbered (ns : List ℕ) : Type 0 where
  pub positions_in : (s : ℕ) → s < product ns → Within ns (positions ns s)
  pub setting_back : (s : ℕ) → s < product ns → setting ns (positions ns s) ≡ s
  pub setting_in : (ps : List ℕ) → Within ns ps → setting ns ps < product ns
  pub positions_back : (ps : List ℕ) → Within ns ps → positions ns (setting ns ps) ≡ ps
