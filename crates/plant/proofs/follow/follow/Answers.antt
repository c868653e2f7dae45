-- What is worked out is where the list leads.
use Rattle.std.proofs.Common.{sym, ◌∙◌}
use Rattle.plant.proofs.Leading.{leads_from_after, after_from_leads}
use Rattle.plant.proofs.follow.follow.Goals as goal

pub returns-clause-leads : goal.returns-clause-leads
returns-clause-leads g c =
    let m = g.P.Plant.meaning c.args.plant.now in
    let os = c.args.operations.now in
    λ t. (λ e. leads_from_after m os c.args.start t (sym c.walk.ensures ∙ e), λ h. c.walk.ensures ∙ after_from_leads m os c.args.start t h)
