-- What is told of the list in hand. Assumes nothing.
use Rattle.std.specs.Prelude.{ℕ, length, Some, None, Option}
use Rattle.std.specs.List.{slice_get}
use Rattle.promise.specs.Readings.{Work}

abbrev pub target_of : Option Work → Option ℕ
target_of None = None
target_of (Some w) = Some w.target

-- how many operations are still to be done
abbrev pub length_of : Option Work → Option ℕ
length_of None = None
length_of (Some w) = Some (length w.to_do)

-- the operation at a place of the list, and none past its end
abbrev pub operation_of : Option Work → ℕ → Option ℕ
operation_of None i = None
operation_of (Some w) i = slice_get w.to_do i
