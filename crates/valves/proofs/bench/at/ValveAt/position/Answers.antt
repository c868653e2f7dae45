-- The position that the valve gives is that of its place.
use Rattle.std.proofs.Common.{get_or, ap, ◌∙◌}
use Rattle.valves.proofs.Steps.{placed_at}
use Rattle.valves.proofs.bench.at.ValveAt.position.Goals as goal

pub returns : goal.returns
returns c =
    let x = c.index-deref-self.result in
    let a = c.args.self in
    placed_at a.bench.now a.setting a.valve x c.stands.result a.there (c.index-deref-self.is ∙ ap (λ l. get_or l a.valve x) c.deref.ensures.0) c.stands.ensures.digit
