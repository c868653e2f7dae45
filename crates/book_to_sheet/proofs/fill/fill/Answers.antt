-- One entry a turn; past the last all answers are put, and the first that is refused ends it.
use Rattle.std.proofs.Common.{◌<◌, ◌≤◌, None, length, sym, ◌∙◌, arith}
use Rattle.sheet.specs.States.{state}
use Rattle.book.specs.Held.{book_bytes}
use Rattle.book.proofs.EntryByEntry.{entries_are}
use Rattle.book_sheet.proofs.JobByJob.{bodies_for_jobs, bodies_few}
use Rattle.book_to_sheet.specs.Entries.{parts_of}
use Rattle.book_to_sheet.proofs.FaultlessBodies.{book_read}
use Rattle.book_to_sheet.proofs.Filling.{put_more, put_all, refused_short}
use Rattle.book_to_sheet.proofs.Refused.{fill_refused}
use Rattle.book_to_sheet.proofs.fill.fill.Goals as goal

pub returns-in_err-put_entry : goal.returns-in_err-put_entry
returns-in_err-put_entry c =
    let book = book_bytes c.args.book.now in
    let all = parts_of c.args.book.now in
    let i = c.loop-number.number in
    let there : i < length all = omega (arith, entries_are None book, c.len-number-end.ensures, c.loop-number-test.true) in
    fill_refused book (state c.args.sheet.now) (state c.put_entry.new.sheet) c.args.buffer.now c.put_entry.new.buffer c.from_residual.result c.from_residual.ensures.0
    (λ rest w jobs.
    refused_short all (state c.args.sheet.now) (state c.loop-number.sheet) (state c.put_entry.new.sheet) c.args.buffer.now c.loop-number.buffer c.put_entry.new.buffer i there c.loop-number.invariant
    c.in_err-put_entry.field-0.0 c.loop-number.auto.buffer c.in_err-put_entry.ensures (bodies_few book (book_read c.args.book.now)) rest w (jobs ∙ sym (bodies_for_jobs book (book_read c.args.book.now))))

pub loop-number-preserved : goal.loop-number-preserved
loop-number-preserved c =
    let all = parts_of c.args.book.now in
    let i = c.loop-number.number in
    let there : i < length all = omega (arith, entries_are None (book_bytes c.args.book.now), c.len-number-end.ensures, c.loop-number-test.true) in
    put_more all (state c.args.sheet.now) (state c.loop-number.sheet) (state c.put_entry.new.sheet) c.args.buffer.now c.loop-number.buffer c.put_entry.new.buffer i there c.loop-number.invariant tt c.in_ok-put_entry.ensures

pub returns : goal.returns
returns c rest w jobs =
    let all = parts_of c.args.book.now in
    let past : length all ≤ c.loop-number.number = omega (arith, entries_are None (book_bytes c.args.book.now), c.len-number-end.ensures, c.loop-number-test.false) in
    put_all all (state c.args.sheet.now) (state c.loop-number.sheet) c.args.buffer.now c.loop-number.buffer c.loop-number.number past c.loop-number.invariant rest w
