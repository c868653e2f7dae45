-- What is wrong first with a steps body. Assumes nothing.
use Rattle.std.specs.Prelude.{ℕ, ◌%◌, Bool, cond, not, ◌&&◌, List, length, take, drop, Some, None, Option, ◌==◌, nat_le, nat_lt, slice_index}
use Rattle.numbers.specs.Low.{value}
use Rattle.bodies.specs.declared.steps.StepsFault.{StepsFault}
use Rattle.bodies.specs.declared.steps.StepsFault.TheVariants.{Length, Answer, Zero, Count}

-- a length of ten bytes and at most 255 operations of two
abbrev pub steps_length : ℕ → Bool
steps_length n = nat_le 10 n && (n % 2 == 0 && nat_le n 520)

-- an answer that comes with a list, and one that comes with none
abbrev pub listed : ℕ → Bool
listed a = a == 0

abbrev pub unlisted : ℕ → Bool
unlisted a = nat_le 4 a && nat_le a 7

-- a body of n bytes with this answer, zero and count: length, answer, length under an answer without a list, zero, count
-- under such an answer
abbrev pub fields_fault : ℕ → ℕ → ℕ → ℕ → Option StepsFault
fields_fault n a z c =
    cond (not (steps_length n)) (Some Length)
    (cond (not (listed a) && not (unlisted a)) (Some Answer)
    (cond (not (listed a) && nat_lt 10 n) (Some Length)
    (cond (not (z == 0)) (Some Zero)
    (cond (not (listed a) && not (c == 0)) (Some Count) None))))

-- answer, 0, count in 64 bits, operations
abbrev pub steps_fault : List ℕ → Option StepsFault
steps_fault bs = fields_fault (length bs) (slice_index bs 0) (slice_index bs 1) (value (take 8 (drop 2 bs)))

-- the byte of the body that a fault names: the first one of the field
abbrev pub steps_byte : StepsFault → ℕ
steps_byte Length = 0
steps_byte Answer = 0
steps_byte Zero = 1
steps_byte Count = 2
