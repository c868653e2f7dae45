-- The first leg, then the fetch.
use Rattle.std.proofs.Common.{◌≡◌, ℕ, ◌+◌, ◌-◌, ◌≤◌, length, take, Some, Ok, ap, ◌∙◌, subst, arith, length-take, rules}
use Rattle.legs.specs.Asked.{asked}
use Rattle.legs.specs.Answers.{Counted}
use Rattle.legs.specs.Lists.{Distance}
use Rattle.plan.specs.Fetched.{Fetched}
use Rattle.plan.proofs.Answering.{planned_found, length_fits, least, first_few, list_in_front, written}
use Rattle.plan.proofs.planning.find_list.Goals as goal

pub slice_bounds-list-end : goal.slice_bounds-list-end
slice_bounds-list-end g c =
    let m = g.P.Plant.meaning c.args.plant.now in
    let lawful = g.met.P.Plant.lawful c.args.plant.now in
    let l = asked c.args.leg in
    let records = length c.args.records.now in
    let a : Counted ℕ = record { found = c.in_ok-reached.reached.length; count = c.in_ok-reached.reached.expanded } in
    let found = c.in_ok-reached.ensures.answer.0 in
    let fits : c.in_ok-reached.reached.length ≤ 255 = length_fits m lawful l records a found in
    let long : length c.args.place.now ≡ 255 = ap length c.requires in
    search rules

pub fetch-requires-clause-distance : goal.fetch-requires-clause-distance
fetch-requires-clause-distance g c =
    let m = g.P.Plant.meaning c.args.plant.now in
    let lawful = g.met.P.Plant.lawful c.args.plant.now in
    let l = asked c.args.leg in
    let records = length c.args.records.now in
    let a : Counted ℕ = record { found = c.in_ok-reached.reached.length; count = c.in_ok-reached.reached.expanded } in
    let found = c.in_ok-reached.ensures.answer.0 in
    let fits : c.in_ok-reached.reached.length ≤ 255 = length_fits m lawful l records a found in
    let long : length c.args.place.now ≡ 255 = ap length c.requires in
    let all : c.in_ok-reached.reached.length ≡ length (take (c.in_ok-reached.reached.length - 0) c.args.place.now) = simp length-take (omega arith) in
    subst (λ n. Distance m n l.start l.target) all (least m lawful l records a found)

pub overflow_add-result : goal.overflow_add-result
overflow_add-result g c =
    let m = g.P.Plant.meaning c.args.plant.now in
    let lawful = g.met.P.Plant.lawful c.args.plant.now in
    let l = asked c.args.leg in
    let records = length c.args.records.now in
    let a : Counted ℕ = record { found = c.in_ok-reached.reached.length; count = c.in_ok-reached.reached.expanded } in
    let found = c.in_ok-reached.ensures.answer.0 in
    let fits : c.in_ok-reached.reached.length ≤ 255 = length_fits m lawful l records a found in
    let long : length c.args.place.now ≡ 255 = ap length c.requires in
    let all : length (take (c.in_ok-reached.reached.length - 0) c.args.place.now) ≡ c.in_ok-reached.reached.length = simp length-take (omega arith) in
    let f = subst (λ o. Fetched m (length (take (c.in_ok-reached.reached.length - 0) c.args.place.now)) l.start l.target (length c.search_leg.new.records) c.fetch.new.list o) c.in_ok-fetched.ensures.ok_part c.fetch.ensures in
    omega (arith, first_few m lawful l records a found, all, f.3)

pub returns-clause-found : goal.returns-clause-found
returns-clause-found g c =
    let m = g.P.Plant.meaning c.args.plant.now in
    let lawful = g.met.P.Plant.lawful c.args.plant.now in
    let l = asked c.args.leg in
    let records = length c.args.records.now in
    let a : Counted ℕ = record { found = c.in_ok-reached.reached.length; count = c.in_ok-reached.reached.expanded } in
    let found = c.in_ok-reached.ensures.answer.0 in
    let fits : c.in_ok-reached.reached.length ≤ 255 = length_fits m lawful l records a found in
    let n = c.in_ok-reached.reached.length in
    let long : length c.args.place.now ≡ 255 = ap length c.requires in
    let all : length (take (n - 0) c.args.place.now) ≡ n = simp length-take (omega arith) in
    let listed : length c.fetch.new.list ≡ n = c.fetch.auto.list ∙ all in
    let f = subst (λ o. Fetched m (length (take (n - 0) c.args.place.now)) l.start l.target (length c.search_leg.new.records) c.fetch.new.list o) c.in_ok-fetched.ensures.ok_part c.fetch.ensures in
    let fetched = subst (λ j. Fetched m j l.start l.target records c.fetch.new.list (Some c.in_ok-fetched.fetched)) all (subst (λ k. Fetched m (length (take (n - 0) c.args.place.now)) l.start l.target k c.fetch.new.list (Some c.in_ok-fetched.fetched)) c.search_leg.auto.records f) in (
      planned_found m lawful l records a found c.fetch.new.list c.in_ok-fetched.fetched fetched
          ∙ ap (λ xs. Ok (record { found = xs; count = c.in_ok-reached.reached.expanded + c.in_ok-fetched.fetched })) (list_in_front n c.fetch.new.list c.args.place.now c.requires fits listed),
      written n c.fetch.new.list c.args.place.now c.requires fits listed,
    )
