-- What the calls on a sheet answer and leave, by the numbers that an open sheet keeps. Assumes nothing.
use Rattle.std.specs.Prelude.{◌≡◌, ℕ, ◌+◌, ◌*◌, ◌≤◌, Bool, true, cond, not, List, [], ◌∷◌, ◌++◌, length, take, drop, Some, None, Option, nat_le, nat_lt}
use Rattle.sheet.specs.declared.refusal.SheetRefusal.{SheetRefusal}
use Rattle.sheet.specs.declared.refusal.SheetRefusal.TheVariants.{Contents, Body, ShortSheet, OverCount, UnderCount}
use Rattle.sheet.specs.declared.states.OpenSheet.{OpenSheet}
use Rattle.sheet.specs.declared.states.ClosedSheet.{ClosedSheet}
use Rattle.sheet.specs.Steps.{Steps, keeps_rule, all_sound}
use Rattle.sheet.specs.Bytes.{body_bytes, body_length, row_bytes, zeros, sheet_bytes, over}

-- how many bodies are declared, how many are there, and how many bytes the sheet takes
pub record State : Type 0 where
  pub declared : ℕ
  pub filled : ℕ
  pub end : ℕ

abbrev pub state : OpenSheet → State
state s = record { declared = s.declared; filled = s.filled; end = s.end }

-- the length of a closed sheet
abbrev pub closed_length : ClosedSheet → ℕ
closed_length s = s.length

-- opening for n bodies on a buffer of so many bytes: at most 64 bodies, and room for head and rows
abbrev pub open_refusal : ℕ → ℕ → Option SheetRefusal
open_refusal n room = cond (nat_lt 64 n) (Some Contents) (cond (nat_lt room (2 + 4 * n)) (Some ShortSheet) None)

abbrev pub opened : ℕ → State
opened n = record { declared = n; filled = 0; end = 2 + 4 * n }

-- the head and the rows, all zero
abbrev pub opened_bytes : ℕ → List ℕ → List ℕ
opened_bytes n buffer = over 0 (n ∷ (0 ∷ zeros (4 * n))) buffer

-- putting a body of k operations: its rule, then the number declared, then room behind the bodies so far
abbrev pub put_refusal_by : State → Bool → ℕ → ℕ → Option SheetRefusal
put_refusal_by s kept k room =
    cond (not kept) (Some Body)
    (cond (nat_le s.declared s.filled) (Some OverCount)
    (cond (nat_lt room (s.end + (10 + 2 * k))) (Some ShortSheet) None))

abbrev pub put_refusal : State → Steps → ℕ → Option SheetRefusal
put_refusal s b room = put_refusal_by s (keeps_rule b) (length b.operations) room

abbrev pub put_state : State → Steps → State
put_state s b = record { declared = s.declared; filled = s.filled + 1; end = s.end + body_length b }

-- the body straight behind the one before, and its row
abbrev pub put_bytes : State → Steps → List ℕ → List ℕ
put_bytes s b buffer = over (2 + 4 * s.filled) (row_bytes b) (over s.end (body_bytes b) buffer)

-- closing: all declared bodies are there
abbrev pub close_refusal : State → Option SheetRefusal
close_refusal s = cond (nat_lt s.filled s.declared) (Some UnderCount) None

-- what a refusal leaves as it was, and what a call that is accepted makes of it
abbrev pub unless : {A : Type 0} → Option SheetRefusal → A → A → A
unless None was made = made
unless (Some r) was made = was

-- the buffer holds the sheet of these bodies, and the rest behind it
pub record Written (s : State) (buffer : List ℕ) (bs : List Steps) (rest : List ℕ) : Type 0 where
  pub filled : s.filled ≡ length bs
  pub end : s.end ≡ length (sheet_bytes s.declared bs)
  pub sound : all_sound bs ≡ true
  pub begins : buffer ≡ sheet_bytes s.declared bs ++ rest

-- a body that is put comes behind those before it: the sheet of one body more, and nothing else, is written
abbrev pub GoesOn : Option SheetRefusal → State → State → Steps → List ℕ → List ℕ → Type 0
GoesOn (Some r) s s' b buffer buffer' = Unit {0}
GoesOn None s s' b buffer buffer' =
    (bs : List Steps) (rest : List ℕ) → Written s buffer bs rest → Written s' buffer' (bs ++ b ∷ []) (drop (body_length b) rest)

-- a sheet that is closed at this length is that of its bodies, all of them: at most 64, each sound
abbrev pub Completes : State → ℕ → Type 0
Completes s n =
    (buffer : List ℕ) (bs : List Steps) (rest : List ℕ) → Written s buffer bs rest →
    (take n buffer ≡ sheet_bytes (length bs) bs) × (n ≡ length (sheet_bytes (length bs) bs)) × (length bs ≤ 64) × (all_sound bs ≡ true)
