-- The four parts of a body, one behind the other.
use Rattle.std.proofs.Common.{refl}
use Rattle.sheet.proofs.Places.{body_written}
use Rattle.sheet.proofs.Words.{length_words}
use Rattle.sheet.proofs.write.write_body.Goals as goal

pub returns : goal.returns
returns c =
    body_written c.args.part.now _ _ c.args.operations.now _ _ _ c.requires refl (length_words c.args.operations.now)
    c.write_number.ensures c.write_operations.ensures
