-- The bytes written so far, with the low bytes of what is left behind them.
use Rattle.std.proofs.Common.{◌≡◌, ◌-◌, ◌++◌, length, take}
use Rattle.numbers.specs.Low.{low}
use Rattle.numbers.proofs.write_number.Given as goal

abbrev pub invariant-loop-byte : goal.invariant-loop-byte
invariant-loop-byte l = take l.byte-index l.part ++ low (length l.initial.part - l.byte-index) l.left ≡ low (length l.initial.part) l.number
