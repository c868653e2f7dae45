-- The body of an entry of a book has no fault.
use Rattle.std.proofs.Common.{sym}
use Rattle.file.specs.Files.{as_part}
use Rattle.book.specs.Held.{book_bytes}
use Rattle.book_to_sheet.proofs.FaultlessBodies.{book_read, body_faultless}
use Rattle.book_to_sheet.proofs.entries.answer_job.Goals as goal

pub answer_by-requires : goal.answer_by-requires
answer_by-requires c =
    let book = c.args.book.now in
    body_faultless (book_bytes book) c.args.job.entry (as_part c.in_ok-entry.entry) (book_read book) (sym c.in_ok-entry.ensures.which)
