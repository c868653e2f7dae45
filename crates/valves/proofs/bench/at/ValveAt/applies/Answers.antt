-- The other valve is looked at only where the position is at an end of the move.
use Rattle.std.proofs.Common.{arith, get_or, ap, ◌∙◌}
use Rattle.std.proofs.lemmas.Bool.Decides.{nat_tests}
use Rattle.valves.proofs.Steps.{placed_at}
use Rattle.valves.proofs.bench.at.ValveAt.applies.Goals as goal

pub returns-then-lock-to : goal.returns-then-lock-to
returns-then-lock-to c =
    let x = c.index-deref-lock.result in
    let a = c.args.self in
    let v = c.args.lock.other in
    let at = placed_at a.bench.now a.setting v x c.stands.result c.requires (c.index-deref-lock.is ∙ ap (λ l. get_or l v x) c.deref.ensures.0) c.stands.ensures.digit in
    grind (arith, nat_tests)
