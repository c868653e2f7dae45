-- The kinds of record that layers are made of: each tells its setting. Assumes nothing.
use Rattle.std.specs.Prelude.{◌≡◌, ℕ}

pub record Kind (R : Type 0) : Type 0 where
  -- the setting that a record tells
  pub setting : R → ℕ
  -- the record of a leg's start
  pub begin : ℕ → R
  -- the record, at a depth, of a setting one step on from the setting of a record of the layer before
  pub onward : ℕ → R → ℕ → R

-- the setting alone
abbrev pub plain : Kind ℕ
plain = record { setting = λ u. u; begin = λ s. s; onward = λ d v u. u }

-- each record tells the setting that it was made for
pub record Tells {R : Type 0} (k : Kind R) : Type 0 where
  pub begins : (s : ℕ) → k.setting (k.begin s) ≡ s
  pub arrives : (d : ℕ) (r : R) (u : ℕ) → k.setting (k.onward d r u) ≡ u
