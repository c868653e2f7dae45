-- A sheet of one body, written and read: answer 0, 16 settings expanded, operations 0, 2, 0, 3. Assumes nothing.
use Rattle.std.proofs.Common.{◌≡◌, ℕ, List, [], ◌∷◌, Ok, refl}
use Rattle.sheet.specs.Steps.{Steps, steps}
use Rattle.sheet.specs.Bytes.{sheet_bytes}
use Rattle.file.specs.declared.kind.Reader.TheVariants.{StepsAlone}
use Rattle.file.specs.Parts.{part}
use Rattle.file.specs.Read.{read}
use Rattle.sheet_reader.specs.Laws.{bodies_in}

abbrev body : List ℕ
body = 0 ∷ 0 ∷ 16 ∷ 0 ∷ 0 ∷ 0 ∷ 0 ∷ 0 ∷ 0 ∷ 0 ∷ 0 ∷ 0 ∷ 2 ∷ 0 ∷ 0 ∷ 0 ∷ 3 ∷ 0 ∷ []

abbrev example : List ℕ
example = 1 ∷ 0 ∷ 4 ∷ 0 ∷ 18 ∷ 0 ∷ 0 ∷ 0 ∷ 16 ∷ 0 ∷ 0 ∷ 0 ∷ 0 ∷ 0 ∷ 0 ∷ 0 ∷ 0 ∷ 0 ∷ 2 ∷ 0 ∷ 0 ∷ 0 ∷ 3 ∷ 0 ∷ []

abbrev said_in_it : Steps
said_in_it = steps 0 16 (0 ∷ 2 ∷ 0 ∷ 3 ∷ [])

pub example_written : sheet_bytes 1 (said_in_it ∷ []) ≡ example
example_written = refl

pub example_read : read StepsAlone example ≡ Ok (part 4 6 body ∷ [])
example_read = refl

pub example_says : bodies_in example ≡ said_in_it ∷ []
example_says = refl

-- opened for one body, before it is put
pub example_open : sheet_bytes 1 [] ≡ 1 ∷ 0 ∷ 0 ∷ 0 ∷ 0 ∷ 0 ∷ []
example_open = refl
