-- Runs of calls on a sheet: opened, bodies put one after another, closed; and what is read from it. Assumes nothing.
use Rattle.std.specs.Prelude.{◌≡◌, ℕ, Bool, true, ◌&&◌, List, [], ◌∷◌, length, take, None}
use Rattle.sheet.specs.Steps.{Steps, fits}
use Rattle.sheet.specs.States.{State, opened, open_refusal, opened_bytes, put_refusal, put_state, put_bytes, close_refusal}
use Rattle.file.specs.declared.kind.Reader.TheVariants.{StepsAlone}
use Rattle.file.specs.Read.{read_fault}
use Rattle.sheet_reader.specs.Laws.{bodies_in}

-- an open sheet and its buffer
pub record Run : Type 0 where
  pub state : State
  pub buffer : List ℕ

abbrev pub begun : ℕ → List ℕ → Run
begun n buffer = record { state = opened n; buffer = opened_bytes n buffer }

abbrev pub step : Run → Steps → Run
step r b = record { state = put_state r.state b; buffer = put_bytes r.state b r.buffer }

-- each of the bodies is put and none is refused
abbrev pub Accepted : Run → List Steps → Type 0
Accepted r [] = Unit {0}
Accepted r (b ∷ bs) = (put_refusal r.state b (length r.buffer) ≡ None) × Accepted (step r b) bs

-- the run once they are all put
abbrev pub after : Run → List Steps → Run
after r [] = r
after r (b ∷ bs) = after (step r b) bs

-- counts of 64 bits and operations of 16
abbrev pub all_fit : List Steps → Bool
all_fit [] = true
all_fit (b ∷ bs) = fits b && all_fit bs

-- a sheet that is opened for n bodies, on which these are put, and that is closed, is read without a fault as these
-- bodies, in their order
abbrev pub PutAndRead : Type 0
PutAndRead =
    (n : ℕ) (buffer : List ℕ) (bs : List Steps) → open_refusal n (length buffer) ≡ None → all_fit bs ≡ true → Accepted (begun n buffer) bs →
    close_refusal (after (begun n buffer) bs).state ≡ None →
    (read_fault StepsAlone (take (after (begun n buffer) bs).state.end (after (begun n buffer) bs).buffer) ≡ None)
    × (bodies_in (take (after (begun n buffer) bs).state.end (after (begun n buffer) bs).buffer) ≡ bs)
