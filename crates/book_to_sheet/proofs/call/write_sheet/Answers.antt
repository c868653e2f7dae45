-- The buffer is too short for the head, or the sheet is complete.
use Rattle.std.proofs.Common.{◌≡◌, ◌+◌, ◌*◌, length, drop, sym, ap, ◌∙◌}
use Rattle.sheet.specs.States.{state}
use Rattle.book.specs.Held.{book_bytes}
use Rattle.book_sheet.specs.Sheets.{book_steps}
use Rattle.book_sheet.proofs.JobByJob.{bodies_for_jobs}
use Rattle.book_to_sheet.proofs.FaultlessBodies.{book_read}
use Rattle.book_to_sheet.proofs.Refused.{sheet_refused}
use Rattle.book_to_sheet.proofs.Closing.{head_short, all_there, closed_length, closed_bytes, closed_fits}
use Rattle.book_to_sheet.proofs.call.write_sheet.Goals as goal

pub returns-in_err-sheet : goal.returns-in_err-sheet
returns-in_err-sheet c =
    let book = book_bytes c.args.book.now in
    let jobs = c.count_jobs.ensures.jobs ∙ sym (bodies_for_jobs book (book_read c.args.book.now)) in
    sheet_refused book c.args.buffer.now c.open.new.buffer c.from_residual.result c.from_residual.ensures.0
    (head_short (book_steps book) c.count_jobs.result (length c.args.buffer.now) c.in_err-sheet.field-0.0 jobs c.count_jobs.ensures.few c.in_err-sheet.ensures.refusal)

pub unreachable-requires : goal.unreachable-requires
unreachable-requires c =
    let book = book_bytes c.args.book.now in
    let opened = ap (λ s. s.declared) c.in_ok-sheet.ensures.sheet in
    let filled = c.in_ok-fill.ensures (drop (2 + 4 * c.count_jobs.result) c.args.buffer.now) c.in_ok-sheet.ensures.written (opened ∙ c.count_jobs.ensures.jobs) in
    let jobs = c.count_jobs.ensures.jobs ∙ sym (bodies_for_jobs book (book_read c.args.book.now)) in
    all_there (state c.fill.new.sheet) c.fill.new.buffer (book_steps book) _ c.in_default.field-0.refusal filled.1 (filled.0 ∙ (opened ∙ jobs)) c.in_default.ensures.cases.0

pub returns : goal.returns
returns c =
    let book = book_bytes c.args.book.now in
    let opened = ap (λ s. s.declared) c.in_ok-sheet.ensures.sheet in
    let filled = c.in_ok-fill.ensures (drop (2 + 4 * c.count_jobs.result) c.args.buffer.now) c.in_ok-sheet.ensures.written (opened ∙ c.count_jobs.ensures.jobs) in
    let jobs = c.count_jobs.ensures.jobs ∙ sym (bodies_for_jobs book (book_read c.args.book.now)) in
    let s = state c.fill.new.sheet in
    let n = c.len.result in
    let before = c.args.buffer.now in
    let after = c.fill.new.buffer in
    let declared : s.declared ≡ length (book_steps book) = filled.0 ∙ (opened ∙ jobs) in
    let end : n ≡ s.end = c.len.ensures ∙ c.in-Ok.ensures.cases.1 in
    let kept : length after ≡ length before = c.fill.auto.buffer ∙ c.open.auto.buffer in (
      closed_length s before after (book_steps book) c.count_jobs.result n filled.1 declared jobs end,
      closed_bytes s before after (book_steps book) c.count_jobs.result n filled.1 declared jobs end,
      closed_fits s before after (book_steps book) c.count_jobs.result n filled.1 declared jobs end kept,
      filled.1.sound,
    )
