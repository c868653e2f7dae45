-- What a plant means, and where a list of operations leads. Assumes nothing.
use Rattle.std.specs.Prelude.{◌≡◌, ℕ, List, [], ◌∷◌, Some, Option}

pub record Meaning : Type 0 where
  -- how many settings there are, and how many operations
  pub settings : ℕ
  pub operations : ℕ
  -- where an operation leads from a setting, if anywhere
  pub step : ℕ → ℕ → Option ℕ
  -- the operation that leads back
  pub reverse : ℕ → ℕ
  -- at most the length of any list from one setting to another
  pub estimate : ℕ → ℕ → ℕ

-- operation o leads from s to t
abbrev pub Steps : Meaning → ℕ → ℕ → ℕ → Type 0
Steps m s o t = m.step s o ≡ Some t

-- the list of operations leads from s to t
abbrev pub Leads : Meaning → ℕ → List ℕ → ℕ → Type 0
Leads m s [] t = s ≡ t
Leads m s (o ∷ os) t = (u : ℕ) × Steps m s o u × Leads m u os t
