-- Each turn looks at the next interlock of the valve.
use Rattle.std.proofs.Common.{◌≡◌, ◌<◌, ◌≤◌, get_or, length, sym, ap, ◌∙◌, subst, arith}
use Rattle.std.proofs.lemmas.Bool.{ltb-true, ltb-false}
use Rattle.valves.specs.Of.{placed}
use Rattle.valves.proofs.Rows.{AtRow, at_first, at_next, next_above, barred_here, free_past, other_in}
use Rattle.valves.proofs.bench.at.ValveAt.barred.Goals.{In-Some}
use Rattle.valves.proofs.bench.at.ValveAt.barred.Goals as goal

-- there is the row that was got
inside : (c : In-Some) → c.loop-row.at < length c.args.self.bench.now.rows.items
inside c = subst (λ l. c.loop-row.at < length l) c.deref-in-loop-row.ensures.0 (ltb-true _ _ (sym c.in-Some.ensures.lookup.0))

is : (c : In-Some) → c.in-Some.row.now ≡ get_or c.args.self.bench.now.rows.items c.loop-row.at c.in-Some.row.now
is c = c.in-Some.ensures.lookup.1 ∙ ap (λ l. get_or l c.loop-row.at c.in-Some.row.now) c.deref-in-loop-row.ensures.0

pub loop-row-init : goal.loop-row-init
loop-row-init c =
    let x = c.index-deref-self.result in
    let a = c.args.self in
    let here = c.index-deref-self.is ∙ ap (λ l. get_or l a.valve x) c.deref.ensures.0 in
    subst (AtRow a.bench.now a.valve c.args.from c.args.to (placed a.bench.now a.setting)) (ap (λ y. y.first) c.index-deref-self.is)
    (at_first a.bench.now a.valve _ _ _ x a.there here)

pub applies-requires : goal.applies-requires
applies-requires c =
    let w = (goal.at.applies-requires c).In-Some in
    other_in c.args.self.bench.now c.loop-row.at c.in-Some.row.now (inside w) (is w)

pub returns-then-applies : goal.returns-then-applies
returns-then-applies c =
    let w = (goal.at.returns-then-applies c).In-Some in
    barred_here _ _ _ _ _ c.loop-row.at c.in-Some.row.now c.loop-row.invariant (inside w) (is w) (sym c.applies.ensures ∙ c.if-applies.true)

pub loop-row-smaller : goal.loop-row-smaller
loop-row-smaller c =
    let w = (goal.at.loop-row-smaller c).In-Some in
    omega (arith, inside w, next_above c.args.self.bench.now c.loop-row.at c.in-Some.row.now (inside w) (is w))

pub loop-row-preserved : goal.loop-row-preserved
loop-row-preserved c =
    let w = (goal.at.loop-row-preserved c).In-Some in
    at_next _ _ _ _ _ c.loop-row.at c.in-Some.row.now c.loop-row.invariant (inside w) (is w) (sym c.applies.ensures ∙ c.if-applies.false)

pub returns : goal.returns
returns c =
    let b = c.args.self.bench.now in
    free_past b _ _ _ _ c.loop-row.at c.loop-row.invariant
    (subst (λ l. length l ≤ c.loop-row.at) c.deref-in-loop-row.ensures.0 (ltb-false _ _ (sym c.in_default.ensures.lookup.0)))
