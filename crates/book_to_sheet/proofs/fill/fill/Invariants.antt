-- The answers to the entries so far stand on the sheet.
use Rattle.sheet.specs.States.{state}
use Rattle.book_to_sheet.specs.Entries.{parts_of}
use Rattle.book_to_sheet.proofs.Filling.{PutSoFar}
use Rattle.book_to_sheet.proofs.fill.fill.Given as goal

abbrev pub invariant-loop-number : goal.invariant-loop-number
invariant-loop-number l = PutSoFar (parts_of l.book) (state l.initial.sheet) (state l.sheet) l.initial.buffer l.buffer l.number
