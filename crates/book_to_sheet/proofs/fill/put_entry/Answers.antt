-- The answer is put as the body that it says; where there is nothing to be told, nothing is put.
use Rattle.sheet.specs.States.{state}
use Rattle.book_to_sheet.specs.Entries.{parts_of, numbered_steps}
use Rattle.book_to_sheet.proofs.Putting.{nothing_put}
use Rattle.book_to_sheet.proofs.fill.put_entry.Goals as goal

pub returns-in-None : goal.returns-in-None
returns-in-None c = nothing_put (numbered_steps (parts_of c.args.book.now) c.args.number) (state c.args.sheet.now) c.args.buffer.now c.in-None.ensures
