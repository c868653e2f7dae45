-- The book's first fault has a byte of 16 bits, and the sheet that was written reads back as the plans of the jobs.
use Rattle.std.proofs.Common.{◌≡◌, List, ℕ, None, Ok, Err, drop, subst, rules}
use Rattle.file.specs.declared.kind.Reader.TheVariants.{AllKinds}
use Rattle.file.specs.Read.{read_fault}
use Rattle.book_to_sheet.specs.Filled.{SheetWritten}
use Rattle.book_to_sheet.proofs.FaultlessBodies.{book_read}
use Rattle.book_to_sheet.proofs.PlanByPlan.{plans_back, written_short}
use Rattle.book_to_sheet.proofs.Sixteens.{book_byte}
use Rattle.book_to_sheet.proofs.call.book_to_sheet.Goals as goal

pub returns-in_err-read-clause-sixteen : goal.returns-in_err-read-clause-sixteen
returns-in_err-read-clause-sixteen c =
    let same : c.from_residual.result ≡ Err c.in_err-read.field-0.0 = search rules in
    rw same (book_byte c.args.book.now c.in_err-read.field-0.0 c.in_err-read.ensures.fault)

pub returns-in-Ok-clause-sixteen : goal.returns-in-Ok-clause-sixteen
returns-in-Ok-clause-sixteen c =
    let written = subst (λ (b : List ℕ). SheetWritten b c.args.sheet.now c.write_sheet.new.buffer (Ok c.in-Ok.length)) c.in_ok-read.ensures.bytes c.in-Ok.ensures in
    written_short c.args.book.now (subst (λ (b : List ℕ). read_fault AllKinds b ≡ None) c.in_ok-read.ensures.bytes (book_read c.in_ok-read.read)) c.in-Ok.length written.0 written.3

pub returns-in-Ok-clause-plans : goal.returns-in-Ok-clause-plans
returns-in-Ok-clause-plans c =
    let written = subst (λ (b : List ℕ). SheetWritten b c.args.sheet.now c.write_sheet.new.buffer (Ok c.in-Ok.length)) c.in_ok-read.ensures.bytes c.in-Ok.ensures in
    plans_back c.args.book.now (subst (λ (b : List ℕ). read_fault AllKinds b ≡ None) c.in_ok-read.ensures.bytes (book_read c.in_ok-read.read))
    c.write_sheet.new.buffer (drop c.in-Ok.length c.args.sheet.now) c.in-Ok.length written.0 written.1 written.3
