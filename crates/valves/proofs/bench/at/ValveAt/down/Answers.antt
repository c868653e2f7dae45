-- Down, unless the valve is at its end or barred.
use Rattle.std.proofs.Common.{◌<◌, sym, ap, ◌∙◌, get_or, arith}
use Rattle.valves.specs.Interlocks.{barred}
use Rattle.valves.specs.Of.{interlocks_of, placed}
use Rattle.valves.proofs.Steps.{down_at_end, down_barred, down_free}
use Rattle.valves.proofs.bench.at.ValveAt.down.Goals as goal

pub returns-in_err-to : goal.returns-in_err-to
returns-in_err-to c =
    let x = c.index-deref-self.result in
    let a = c.args.self in
    let is = c.index-deref-self.is ∙ ap (λ l. get_or l a.valve x) c.deref.ensures.0 in
    let p = c.stands-from.result in
    let end : p < 1 = omega (arith, c.in_err-to.ensures) in
    c.from_residual.ensures ∙ down_at_end a.bench.now a.setting a.valve x p a.inside a.there is c.stands-from.ensures.digit end

pub returns-then-barred : goal.returns-then-barred
returns-then-barred c =
    let x = c.index-deref-self.result in
    let a = c.args.self in
    let b = a.bench.now in
    let is = c.index-deref-self.is ∙ ap (λ l. get_or l a.valve x) c.deref.ensures.0 in
    let p = c.stands-from.result in
    down_barred b a.setting a.valve x p a.inside a.there is c.stands-from.ensures.digit c.in_ok-to.ensures.0
    (ap (λ q. barred a.valve p q (placed b a.setting) (interlocks_of b)) (sym c.in_ok-to.ensures.1) ∙ (sym c.barred.ensures ∙ c.if-barred.true))

pub returns : goal.returns
returns c =
    let x = c.index-deref-self.result in
    let a = c.args.self in
    let b = a.bench.now in
    let is = c.index-deref-self.is ∙ ap (λ l. get_or l a.valve x) c.deref.ensures.0 in
    let p = c.stands-from.result in
    down_free b a.setting a.valve x p a.inside a.there is c.stands-from.ensures.digit c.in_ok-to.ensures.0
    (ap (λ q. barred a.valve p q (placed b a.setting) (interlocks_of b)) (sym c.in_ok-to.ensures.1) ∙ (sym c.barred.ensures ∙ c.if-barred.false))
