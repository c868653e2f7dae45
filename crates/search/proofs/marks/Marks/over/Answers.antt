-- There is no mark in zeros.
use Rattle.std.proofs.Common.{[], length, sym, subst}
use Rattle.search.specs.Marked.{Marked}
use Rattle.search.proofs.Marking.{marked_none}
use Rattle.search.proofs.marks.Marks.over.Goals as goal

pub returns : goal.returns
returns c = subst (λ m. Marked m []) (sym (c.fill.ensures.after (λ y e. e))) (marked_none (length c.args.memory.now))
