-- Books and their sheets, worked out by the definitions. Assumes nothing.
use Rattle.std.proofs.Common.{◌≡◌, ℕ, List, [], ◌∷◌, ◌++◌, replicate, Ok, Err, refl}
use Rattle.faults.specs.declared.fault.FileFault.TheVariants.{TooShort, ShortSheet}
use Rattle.book_sheet.specs.Sheets.{sheet_of, sheet_told, sheet_left}
use Rattle.book_sheet.specs.Example.{example_book, example_sheet}

pub example_written : sheet_of example_book ≡ example_sheet
example_written = refl

-- 24 bytes of room suffice, and 23 do not
pub example_told : sheet_told example_book 24 ≡ Ok 24
example_told = refl

pub example_short : sheet_told example_book 23 ≡ Err (ShortSheet 23)
example_short = refl

-- what is behind the sheet stays, and a buffer that is too short is left zero
pub example_left : sheet_left example_book (replicate 26 7) ≡ example_sheet ++ (7 ∷ 7 ∷ [])
example_left = refl

pub example_zero : sheet_left example_book (replicate 23 7) ≡ replicate 23 0
example_zero = refl

-- a book without jobs, and a file that is no book
pub no_jobs : sheet_of (0 ∷ 0 ∷ []) ≡ 0 ∷ 0 ∷ []
no_jobs = refl

pub one_byte : sheet_told (7 ∷ []) 24 ≡ Err (TooShort 1)
one_byte = refl

pub one_byte_left : sheet_left (7 ∷ []) (9 ∷ 9 ∷ []) ≡ 9 ∷ 9 ∷ []
one_byte_left = refl

-- the same bench, with a job of this bound, in two bytes, and this target
abbrev asked : ℕ → ℕ → ℕ → List ℕ
asked low high target =
    2 ∷ 0 ∷ 1 ∷ 0 ∷ 8 ∷ 0 ∷ 3 ∷ 0 ∷ 12 ∷ 0 ∷ 2 ∷ 1 ∷ 3 ∷ 2 ∷ 0 ∷ 2 ∷ 1 ∷ 0 ∷ 0 ∷ 0 ∷ low ∷ high ∷ 0 ∷ 0 ∷ 0 ∷ 0 ∷ target ∷ 0 ∷ 0 ∷ 0 ∷ []

abbrev refused : ℕ → List ℕ
refused number = 1 ∷ 0 ∷ 4 ∷ 0 ∷ 10 ∷ 0 ∷ number ∷ 0 ∷ replicate 8 0

-- a setting that there is not, also before a bound that is too high; a bound that is too high; a target out of reach
pub no_such_setting : sheet_of (asked 4 0 6) ≡ refused 4
no_such_setting = refl

pub setting_first : sheet_of (asked 0 1 6) ≡ refused 4
setting_first = refl

pub bound_too_high : sheet_of (asked 0 1 2) ≡ refused 5
bound_too_high = refl

pub out_of_reach : sheet_of (asked 3 0 2) ≡ refused 7
out_of_reach = refl
