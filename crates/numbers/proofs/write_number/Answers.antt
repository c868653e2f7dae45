-- A turn writes the lowest byte that is left.
use Rattle.std.proofs.Common.{◌<◌, length, arith}
use Rattle.numbers.proofs.Laws.{low_more}
use Rattle.numbers.proofs.write_number.Goals as goal

pub loop-byte-preserved : goal.loop-byte-preserved
loop-byte-preserved c =
    let h : c.loop-byte.byte-index < length c.loop-byte.part = omega arith in
    low_more _ _ _ _ _ h c.loop-byte.auto.part c.loop-byte.invariant
