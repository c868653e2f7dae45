-- Up, unless the valve is at its end or barred.
use Rattle.std.proofs.Common.{sym, ap, ◌∙◌, get_or, arith}
use Rattle.valves.proofs.Steps.{up_fits, up_at_end, up_barred, up_free}
use Rattle.valves.proofs.bench.at.ValveAt.up.Goals.{then-to-valve-via-then-to-valve, then-to-valve-via-else-to-valve+then-barred}
use Rattle.valves.proofs.bench.at.ValveAt.up.Goals as goal

pub returns-then-to-valve : goal.returns-then-to-valve
returns-then-to-valve c =
    let x = c.index-deref-self.result in
    let a = c.args.self in
    let is = c.index-deref-self.is ∙ ap (λ l. get_or l a.valve x) c.deref.ensures.0 in
    let at = c.stands-from.ensures.digit in
    elim c.then-to-valve.branch [ then-to-valve-via-then-to-valve w ↦ up_at_end a.bench.now a.setting a.valve x _ a.inside a.there is at w.if-to-valve.true | then-to-valve-via-else-to-valve+then-barred w ↦ up_barred a.bench.now a.setting a.valve x _ a.inside a.there is at w.if-to-valve.false (sym w.barred.ensures ∙ w.if-barred.true) ]

pub overflow_add-result : goal.overflow_add-result
overflow_add-result c =
    let x = c.index-deref-self.result in
    let a = c.args.self in
    let is = c.index-deref-self.is ∙ ap (λ l. get_or l a.valve x) c.deref.ensures.0 in
    omega (arith, up_fits a.bench.now a.setting a.valve x _ a.inside a.there is c.stands-from.ensures.digit c.if-to-valve.false)

pub returns : goal.returns
returns c =
    let x = c.index-deref-self.result in
    let a = c.args.self in
    let is = c.index-deref-self.is ∙ ap (λ l. get_or l a.valve x) c.deref.ensures.0 in
    up_free a.bench.now a.setting a.valve x _ a.inside a.there is c.stands-from.ensures.digit c.if-to-valve.false (sym c.barred.ensures ∙ c.if-barred.false)
