-- The four bytes of the row, or none past the last.
use Rattle.std.proofs.Common.{refl}
use Rattle.plant_parts.proofs.ByNumber.{row_past, row_there}
use Rattle.plant_parts.proofs.bytes.row_in.Goals as goal

pub returns-then-number-count : goal.returns-then-number-count
returns-then-number-count g c = row_past g.R.Row.said c.args.count c.args.number _ c.if-number-count.true

pub returns : goal.returns
returns g c =
    row_there g.R.Row.said g.met.R.Row.alone c.args.count c.args.number c.args.begin _ _ _ _ _ c.args.body.now _ c.if-number-count.false refl
    c.byte_at.ensures c.byte_at-2.ensures c.byte_at-3.ensures c.byte_at-4.ensures c.of.ensures
