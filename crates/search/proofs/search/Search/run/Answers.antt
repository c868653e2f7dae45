-- Each layer is one turn, until the leg ends.
use Rattle.std.proofs.Common.{◌≡◌, suc, ◌+◌, true, false, None, sym, ap, ◌∙◌, subst, add-one, arith, rules}
use Rattle.std.specs.Result.{result_ok}
use Rattle.legs.specs.Kinds.{Tells}
use Rattle.legs.proofs.Few.{few}
use Rattle.legs.proofs.Need.{layer_size}
use Rattle.search.specs.Records.{kind}
use Rattle.legs.specs.Asked.{asked}
use Rattle.search.specs.Stands.{Completed}
use Rattle.search.specs.Walked.{over, Walked, Ran}
use Rattle.search.specs.Stored.{store_of}
use Rattle.search.proofs.Walking.{over_ends, walked_on, too_short, walked_to_end}
use Rattle.search.proofs.search.Search.run.Goals as goal

pub returns-in_err-expand_layer-clause-ran : goal.returns-in_err-expand_layer-clause-ran
returns-in_err-expand_layer-clause-ran g c =
    let task = c.args.self.now.task in
    let m = g.P.Plant.meaning task.plant.now in
    let lawful = g.met.P.Plant.lawful task.plant.now in
    let tells = g.R.Record.tells in
    let h = task.half in
    let k = kind tells g.R.Record.opens g.R.Record.carries h in
    let t : Tells k = record { begins = g.met.R.Record.opened; arrives = g.met.R.Record.carried h } in
    let l = asked task.leg in
    let d = c.loop-self.depth in
    let s = store_of c.loop-self.self in
    let s₁ = store_of c.expand_layer.new.self in
    let w = c.loop-self.invariant.0 in
    let same = c.loop-self.invariant.1 in
    let going = sym (over_ends m lawful k t l d s w.stands) ∙ (sym (ap (λ u. over tells s (asked u.leg) d) same) ∙ (sym c.ended.ensures ∙ c.loop-self-test.true)) in
    let got = subst (λ u. Completed (g.P.Plant.meaning u.plant.now) (kind tells g.R.Record.opens g.R.Record.carries u.half) (asked u.leg) d s s₁ false) same c.in_err-expand_layer.ensures.completed in
    let failed : result_ok c.from_residual.result ≡ None = search rules in
    subst (Ran m k l (store_of c.args.self.now) s₁) (sym failed) (got.0.long ∙ w.long, too_short m lawful k t l (store_of c.args.self.now) s d c.loop-self.expanded c.loop-self.used w going got.1)

pub overflow_add-expanded : goal.overflow_add-expanded
overflow_add-expanded g c =
    let task = c.args.self.now.task in
    let m = g.P.Plant.meaning task.plant.now in
    let lawful = g.met.P.Plant.lawful task.plant.now in
    let tells = g.R.Record.tells in
    let h = task.half in
    let k = kind tells g.R.Record.opens g.R.Record.carries h in
    let t : Tells k = record { begins = g.met.R.Record.opened; arrives = g.met.R.Record.carried h } in
    let l = asked task.leg in
    let d = c.loop-self.depth in
    let s = store_of c.loop-self.self in
    let s₁ = store_of c.expand_layer.new.self in
    let w = c.loop-self.invariant.0 in
    let same = c.loop-self.invariant.1 in
    let going = sym (over_ends m lawful k t l d s w.stands) ∙ (sym (ap (λ u. over tells s (asked u.leg) d) same) ∙ (sym c.ended.ensures ∙ c.loop-self-test.true)) in
    let got = subst (λ u. Completed (g.P.Plant.meaning u.plant.now) (kind tells g.R.Record.opens g.R.Record.carries u.half) (asked u.leg) d s s₁ true) same c.in_ok-expand_layer.ensures.completed in
    let most = few m l lawful task.start (suc d) in
    omega (arith, most, lawful.settings_most, w.counted, got.0.presents, w.stands.presents, layer_size m l k t d)

pub loop-self-preserved : goal.loop-self-preserved
loop-self-preserved g c =
    let task = c.args.self.now.task in
    let m = g.P.Plant.meaning task.plant.now in
    let lawful = g.met.P.Plant.lawful task.plant.now in
    let tells = g.R.Record.tells in
    let h = task.half in
    let k = kind tells g.R.Record.opens g.R.Record.carries h in
    let t : Tells k = record { begins = g.met.R.Record.opened; arrives = g.met.R.Record.carried h } in
    let l = asked task.leg in
    let d = c.loop-self.depth in
    let s = store_of c.loop-self.self in
    let s₁ = store_of c.expand_layer.new.self in
    let w = c.loop-self.invariant.0 in
    let same = c.loop-self.invariant.1 in
    let going = sym (over_ends m lawful k t l d s w.stands) ∙ (sym (ap (λ u. over tells s (asked u.leg) d) same) ∙ (sym c.ended.ensures ∙ c.loop-self-test.true)) in
    let got = subst (λ u. Completed (g.P.Plant.meaning u.plant.now) (kind tells g.R.Record.opens g.R.Record.carries u.half) (asked u.leg) d s s₁ true) same c.in_ok-expand_layer.ensures.completed in
    let s₂ = store_of c.advance.new.self in
    let next = walked_on m lawful k t l (store_of c.args.self.now) s s₁ s₂ d c.loop-self.expanded c.loop-self.used w going c.expand_layer.new.self.within got.0 got.1 c.advance.ensures.advanced in (
      subst (λ n. Walked m k l (store_of c.args.self.now) s₂ n (c.loop-self.expanded + s₁.present) c.max-used.result) (sym (add-one d))
          (subst (λ n. Walked m k l (store_of c.args.self.now) s₂ (suc d) (c.loop-self.expanded + s₁.present) n) (omega (arith, c.max-used.ensures, c.count.ensures)) next),
      c.advance.ensures.task ∙ c.expand_layer.ensures.task ∙ same,
      c.advance.ensures.lender ∙ c.expand_layer.ensures.lender ∙ c.loop-self.invariant.2,
    )

pub returns-clause-ran : goal.returns-clause-ran
returns-clause-ran g c =
    let task = c.args.self.now.task in
    let m = g.P.Plant.meaning task.plant.now in
    let lawful = g.met.P.Plant.lawful task.plant.now in
    let tells = g.R.Record.tells in
    let h = task.half in
    let k = kind tells g.R.Record.opens g.R.Record.carries h in
    let t : Tells k = record { begins = g.met.R.Record.opened; arrives = g.met.R.Record.carried h } in
    let l = asked task.leg in
    let s = store_of c.loop-self.self in
    let d = c.loop-self.depth in
    let w = c.loop-self.invariant.0 in
    let over-now = sym (over_ends m lawful k t l d s w.stands) ∙ (sym (ap (λ u. over tells s (asked u.leg) d) c.loop-self.invariant.1) ∙ (sym c.ended.ensures ∙ c.loop-self-test.false)) in
    (w, walked_to_end m lawful k t l (store_of c.args.self.now) s d c.loop-self.expanded c.loop-self.used w over-now)
