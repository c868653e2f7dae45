-- The number of each refusal of a sheet. Assumes nothing.
use Rattle.std.specs.Prelude.{ℕ}
use Rattle.sheet.specs.declared.refusal.SheetRefusal.{SheetRefusal}
use Rattle.sheet.specs.declared.refusal.SheetRefusal.TheVariants.{Contents, Body, ShortSheet, OverCount, UnderCount}

abbrev pub number : SheetRefusal → ℕ
number Contents = 11
number Body = 12
number ShortSheet = 13
number OverCount = 15
number UnderCount = 16
