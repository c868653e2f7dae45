-- No fault, and data of a track, are the same.
use Rattle.std.proofs.Common.{sym, ◌∙◌}
use Rattle.track.specs.Faultless.{data_from_none, none_from_data}
use Rattle.track.proofs.track.check.first_fault.Goals as goal

pub returns-clause-none : goal.returns-clause-none
returns-clause-none c =
    (λ e. data_from_none _ _ (sym c.check.ensures ∙ (sym c.err.ensures.value ∙ e)), λ k. c.err.ensures.value ∙ (c.check.ensures ∙ none_from_data _ _ k))
