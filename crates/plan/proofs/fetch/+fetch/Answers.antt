-- Lists of none and one operation need no leg; a longer one is its two halves.
use Rattle.std.proofs.Common.{◌≡◌, ◌-◌, ◌/◌, ◌≤◌, length, Some, None, refl, ◌∙◌, subst, arith}
use Rattle.legs.specs.Plans.{fetch_leg}
use Rattle.legs.specs.Relays.{relays}
use Rattle.plan.specs.Fetched.{Fetched}
use Rattle.plan.proofs.Fetching.{Halves, fetched_one, some_lowest, leg_refused, leg_answered, leg_overfull, leg_few, relay_in, first_distance, second_distance, first_overfull, second_overfull, fetched_both}
use Rattle.plan.proofs.fetch.+fetch.Goals as goal

pub returns-in_err-list : goal.returns-in_err-list
returns-in_err-list g t c =
    absurd (some_lowest (g.P.Plant.meaning c.args.plant.now) (g.met.P.Plant.lawful c.args.plant.now) _ c.args.start c.args.target c.if-count-eq1.true c.requires.distance c.in_err-list.ensures)

pub returns-then-count-eq1 : goal.returns-then-count-eq1
returns-then-count-eq1 g t c =
    fetched_one (g.P.Plant.meaning c.args.plant.now) (g.met.P.Plant.lawful c.args.plant.now) _ c.args.start c.args.target (length c.args.records.now) c.in_ok-list.field-0 c.args.list.now c.if-count-eq1.true refl c.in_ok-list.ensures

pub returns-in_err-reached : goal.returns-in_err-reached
returns-in_err-reached g t c =
    let m = g.P.Plant.meaning c.args.plant.now in
    let n = length c.args.list.now in
    let s = c.args.start in
    let u = c.args.target in
    let records = length c.args.records.now in
    let two : 2 ≤ n = omega (arith, c.if-count-eq0.false, c.if-count-eq1.false) in
    let why = leg_refused m (relays n) (fetch_leg n s u) records c.search_leg.result c.search_leg.ensures.answer c.in_err-reached.ensures.value in
    rw c.from_residual-in_err-reached.ensures (leg_overfull m (g.met.P.Plant.lawful c.args.plant.now) n s u records two c.requires.short c.requires.start c.requires.target c.requires.distance why.0 why.1)

pub fetch-requires : goal.fetch-requires
fetch-requires g t c κs within =
    let m = g.P.Plant.meaning c.args.plant.now in
    let lawful = g.met.P.Plant.lawful c.args.plant.now in
    let n = length c.args.list.now in
    let records = length c.args.records.now in
    let r = c.in_ok-reached.reached in
    let h : Halves m n c.args.start c.args.target records r = record {
      two = omega (arith, c.if-count-eq0.false, c.if-count-eq1.false);
      few = c.requires.short;
      start = c.requires.start;
      target = c.requires.target;
      distance = c.requires.distance;
      answer = leg_answered m (relays n) (fetch_leg n c.args.start c.args.target) records c.search_leg.result r c.search_leg.ensures.answer c.in_ok-reached.ensures.value;
    } in
    let front : length c.split_at_mut-front.result.0.now ≡ n / 2 = c.split_at_mut-front.ensures.front_len in
    (omega (arith, h.two), (within, (c.requires.start, (relay_in lawful h, (omega (arith, h.few), first_distance lawful h _ front)))))

pub returns-in_err-first : goal.returns-in_err-first
returns-in_err-first g t c =
    let m = g.P.Plant.meaning c.args.plant.now in
    let lawful = g.met.P.Plant.lawful c.args.plant.now in
    let n = length c.args.list.now in
    let records = length c.args.records.now in
    let r = c.in_ok-reached.reached in
    let h : Halves m n c.args.start c.args.target records r = record {
      two = omega (arith, c.if-count-eq0.false, c.if-count-eq1.false);
      few = c.requires.short;
      start = c.requires.start;
      target = c.requires.target;
      distance = c.requires.distance;
      answer = leg_answered m (relays n) (fetch_leg n c.args.start c.args.target) records c.search_leg.result r c.search_leg.ensures.answer c.in_ok-reached.ensures.value;
    } in
    let front : length c.split_at_mut-front.result.0.now ≡ n / 2 = c.split_at_mut-front.ensures.front_len in
    rw c.from_residual-in_err-first.ensures (first_overfull lawful h _ c.fetch.new.list front (subst (λ k. Fetched m (length c.split_at_mut-front.result.0.now) c.args.start r.record.relay k c.fetch.new.list None) c.search_leg.auto.records c.in_err-first.ensures))

pub fetch-requires-2 : goal.fetch-requires-2
fetch-requires-2 g t c κs within =
    let m = g.P.Plant.meaning c.args.plant.now in
    let lawful = g.met.P.Plant.lawful c.args.plant.now in
    let n = length c.args.list.now in
    let records = length c.args.records.now in
    let r = c.in_ok-reached.reached in
    let h : Halves m n c.args.start c.args.target records r = record {
      two = omega (arith, c.if-count-eq0.false, c.if-count-eq1.false);
      few = c.requires.short;
      start = c.requires.start;
      target = c.requires.target;
      distance = c.requires.distance;
      answer = leg_answered m (relays n) (fetch_leg n c.args.start c.args.target) records c.search_leg.result r c.search_leg.ensures.answer c.in_ok-reached.ensures.value;
    } in
    let back : length c.split_at_mut-front.result.1.now ≡ n - n / 2 = omega (arith, c.split_at_mut-front.ensures.back_len) in
    (omega (arith, h.two), (within, (relay_in lawful h, (c.requires.target, (omega (arith, h.few), second_distance lawful h _ back)))))

pub returns-in_err-second : goal.returns-in_err-second
returns-in_err-second g t c =
    let m = g.P.Plant.meaning c.args.plant.now in
    let lawful = g.met.P.Plant.lawful c.args.plant.now in
    let n = length c.args.list.now in
    let records = length c.args.records.now in
    let r = c.in_ok-reached.reached in
    let h : Halves m n c.args.start c.args.target records r = record {
      two = omega (arith, c.if-count-eq0.false, c.if-count-eq1.false);
      few = c.requires.short;
      start = c.requires.start;
      target = c.requires.target;
      distance = c.requires.distance;
      answer = leg_answered m (relays n) (fetch_leg n c.args.start c.args.target) records c.search_leg.result r c.search_leg.ensures.answer c.in_ok-reached.ensures.value;
    } in
    let back : length c.split_at_mut-front.result.1.now ≡ n - n / 2 = omega (arith, c.split_at_mut-front.ensures.back_len) in
    let same = c.fetch.auto.records ∙ c.search_leg.auto.records in
    rw c.from_residual-in_err-second.ensures (second_overfull lawful h _ c.fetch-2.new.list back (subst (λ k. Fetched m (length c.split_at_mut-front.result.1.now) r.record.relay c.args.target k c.fetch-2.new.list None) same c.in_err-second.ensures))

pub overflow_add-result : goal.overflow_add-result
overflow_add-result g t c =
    let m = g.P.Plant.meaning c.args.plant.now in
    let lawful = g.met.P.Plant.lawful c.args.plant.now in
    let n = length c.args.list.now in
    let records = length c.args.records.now in
    let r = c.in_ok-reached.reached in
    let h : Halves m n c.args.start c.args.target records r = record {
      two = omega (arith, c.if-count-eq0.false, c.if-count-eq1.false);
      few = c.requires.short;
      start = c.requires.start;
      target = c.requires.target;
      distance = c.requires.distance;
      answer = leg_answered m (relays n) (fetch_leg n c.args.start c.args.target) records c.search_leg.result r c.search_leg.ensures.answer c.in_ok-reached.ensures.value;
    } in
    let front : length c.split_at_mut-front.result.0.now ≡ n / 2 = c.split_at_mut-front.ensures.front_len in
    omega (arith, leg_few lawful h, c.in_ok-first.ensures.3, h.few)

pub overflow_add-result-2 : goal.overflow_add-result-2
overflow_add-result-2 g t c =
    let m = g.P.Plant.meaning c.args.plant.now in
    let lawful = g.met.P.Plant.lawful c.args.plant.now in
    let n = length c.args.list.now in
    let records = length c.args.records.now in
    let r = c.in_ok-reached.reached in
    let h : Halves m n c.args.start c.args.target records r = record {
      two = omega (arith, c.if-count-eq0.false, c.if-count-eq1.false);
      few = c.requires.short;
      start = c.requires.start;
      target = c.requires.target;
      distance = c.requires.distance;
      answer = leg_answered m (relays n) (fetch_leg n c.args.start c.args.target) records c.search_leg.result r c.search_leg.ensures.answer c.in_ok-reached.ensures.value;
    } in
    let front : length c.split_at_mut-front.result.0.now ≡ n / 2 = c.split_at_mut-front.ensures.front_len in
    let back : length c.split_at_mut-front.result.1.now ≡ n - n / 2 = omega (arith, c.split_at_mut-front.ensures.back_len) in
    omega (arith, leg_few lawful h, c.in_ok-first.ensures.3, c.in_ok-second.ensures.3, h.few)

pub returns : goal.returns
returns g t c =
    let m = g.P.Plant.meaning c.args.plant.now in
    let lawful = g.met.P.Plant.lawful c.args.plant.now in
    let n = length c.args.list.now in
    let records = length c.args.records.now in
    let r = c.in_ok-reached.reached in
    let h : Halves m n c.args.start c.args.target records r = record {
      two = omega (arith, c.if-count-eq0.false, c.if-count-eq1.false);
      few = c.requires.short;
      start = c.requires.start;
      target = c.requires.target;
      distance = c.requires.distance;
      answer = leg_answered m (relays n) (fetch_leg n c.args.start c.args.target) records c.search_leg.result r c.search_leg.ensures.answer c.in_ok-reached.ensures.value;
    } in
    let front : length c.split_at_mut-front.result.0.now ≡ n / 2 = c.split_at_mut-front.ensures.front_len in
    let back : length c.split_at_mut-front.result.1.now ≡ n - n / 2 = omega (arith, c.split_at_mut-front.ensures.back_len) in
    let same = c.fetch.auto.records ∙ c.search_leg.auto.records in
    let one = subst (λ k. Fetched m (length c.split_at_mut-front.result.0.now) c.args.start r.record.relay k c.fetch.new.list (Some c.in_ok-first.first)) c.search_leg.auto.records c.in_ok-first.ensures in
    let other = subst (λ k. Fetched m (length c.split_at_mut-front.result.1.now) r.record.relay c.args.target k c.fetch-2.new.list (Some c.in_ok-second.second)) same c.in_ok-second.ensures in
    fetched_both lawful h _ _ c.in_ok-first.first c.in_ok-second.second c.fetch.new.list c.fetch-2.new.list front back one other
