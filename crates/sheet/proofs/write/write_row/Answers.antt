-- The three parts of a row, one behind the other.
use Rattle.sheet.proofs.Places.{row_written}
use Rattle.sheet.proofs.write.write_row.Goals as goal

pub returns : goal.returns
returns c = row_written c.args.part.now _ _ _ c.requires c.write_number.ensures
