-- The pieces of a line fit 32 bytes.
use Rattle.std.proofs.Common.{◌+◌, ◌<◌, length, ap, ◌∙◌, arith, length-append}
use Rattle.fault_line.specs.Lines.{written, numeral}
use Rattle.fault_line.proofs.Room.{room_for_byte}
use Rattle.fault_line.proofs.line.Line.of.Goals as goal

pub push_decimal-requires-2 : goal.push_decimal-requires-2
push_decimal-requires-2 c =
    let room : length (written c.push-4.new.self) + length (numeral c.byte.result) < 32 =
    room_for_byte c.layer.result _ c.number.result c.byte.result _ _ _ _ _ _ (c.as_bytes.ensures.value ∙ c.word.ensures) (omega arith) (omega arith)
    c.empty-line.ensures c.push.ensures c.push-2.ensures c.push-3.ensures c.push_decimal.ensures c.push-4.ensures in
    omega arith

pub push-requires-5 : goal.push-requires-5
push-requires-5 c =
    let room : length (written c.push-4.new.self) + length (numeral c.byte.result) < 32 =
    room_for_byte c.layer.result _ c.number.result c.byte.result _ _ _ _ _ _ (c.as_bytes.ensures.value ∙ c.word.ensures) (omega arith) (omega arith)
    c.empty-line.ensures c.push.ensures c.push-2.ensures c.push-3.ensures c.push_decimal.ensures c.push-4.ensures in
    omega (arith, ap length c.push_decimal-2.ensures, length-append (written c.push-4.new.self) (numeral c.byte.result))
