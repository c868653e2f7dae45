-- What every plant owes: its ranges, what it answers out of range, and its two laws. Assumes nothing.
use Rattle.std.specs.Prelude.{◌≡◌, ℕ, ◌<◌, ◌≤◌, List, length, None}
use Rattle.plant.specs.Meaning.{Meaning, Steps, Leads}

pub record Lawful (m : Meaning) : Type 0 where
  -- the ranges
  pub settings_some : 1 ≤ m.settings
  pub settings_most : m.settings ≤ 16777216
  pub operations_most : m.operations ≤ 2048
  pub estimate_most : (s t : ℕ) → m.estimate s t ≤ 65535
  pub step_within : (s o t : ℕ) → Steps m s o t → t < m.settings
  pub reverse_within : (o : ℕ) → o < m.operations → m.reverse o < m.operations
  -- out of range
  pub setting_past : (s o : ℕ) → m.settings ≤ s → m.step s o ≡ None
  pub operation_past : (s o : ℕ) → m.operations ≤ o → m.step s o ≡ None
  pub reverse_past : (o : ℕ) → m.operations ≤ o → m.reverse o ≡ o
  pub start_past : (s t : ℕ) → m.settings ≤ s → m.estimate s t ≡ 0
  pub target_past : (s t : ℕ) → m.settings ≤ t → m.estimate s t ≡ 0
  -- the reverse of the reverse is the operation itself, and leads back
  pub reverse_twice : (o : ℕ) → m.reverse (m.reverse o) ≡ o
  pub steps_back : (s o t : ℕ) → Steps m s o t → Steps m t (m.reverse o) s
  -- the estimate is never above the length of a list that leads there
  pub estimate_least : (os : List ℕ) (s t : ℕ) → Leads m s os t → m.estimate s t ≤ length os
