-- The numbers of all entries are gone through.
use Rattle.std.proofs.Common.{◌≡◌, ◌-◌, eqb, sym, ◌∙◌, None, length, arith, rules, tests}
use Rattle.std.proofs.lemmas.Iterator.{YieldsList-from_range}
use Rattle.std.proofs.lemmas.Iterator.Consumers.{YieldsList-from_filter, count_from_yields_List}
use Rattle.book.specs.Held.{book_bytes}
use Rattle.book.proofs.EntryByEntry.{entries_are}
use Rattle.book_sheet.specs.Sheets.{jobs_in}
use Rattle.book_sheet.proofs.JobByJob.{bodies_for_jobs, bodies_few}
use Rattle.book_to_sheet.specs.Entries.{parts_of, jobs_at}
use Rattle.book_to_sheet.proofs.FaultlessBodies.{book_read}
use Rattle.book_to_sheet.proofs.EntryByEntry.{jobs_counted}
use Rattle.book_to_sheet.proofs.jobs.count_jobs.Goals as goal

pub returns : goal.returns
returns c =
    let book = book_bytes c.args.book.now in
    let es = parts_of c.args.book.now in
    let n = c.len.result in
    let all : length es ≡ n = entries_are None book ∙ sym c.len.ensures in
    let whole : n - 0 ≡ n = omega arith in
    let jobs : c.count.result ≡ jobs_in es =
    count_from_yields_List c.filter.result c.count.result c.count.ensures.ran
    (YieldsList-from_filter _ (λ i. eqb (jobs_at es i) 1) (YieldsList-from_range 0 n n c.filter.ensures.source whole) c.filter.ensures.closure (λ x b q k. search (rules, tests)))
    ∙ jobs_counted es n all in
    record {
      jobs = jobs;
      few = omega (arith, jobs, bodies_for_jobs book (book_read c.args.book.now), bodies_few book (book_read c.args.book.now));
    }
