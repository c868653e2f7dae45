-- One place a turn, each below the one before.
use Rattle.std.proofs.Common.{◌+◌, ◌<◌, map, length, get_or, sym, ap, ◌∙◌, subst, arith}
use Rattle.std.proofs.Math.Bool.{Bool-set}
use Rattle.std.proofs.Math.Bridge.{le_prop}
use Rattle.std.proofs.Math.Logic.{∥∥₁_elim, ∥∥₁_map}
use lib.ListN.{length-map}
use Rattle.search.specs.Chained.{bucket_of}
use Rattle.search.proofs.Scanning.{told_here, has_at}
use Rattle.search.proofs.Chaining.{Left, left_all, left_none, left_bucket, left_next}
use Rattle.search.proofs.chains.ChainsLookup.meets.Goals as goal

pub bounds-self-head : goal.bounds-self-head
bounds-self-head g c =
    let some : 0 < c.args.self.now.heads = omega (arith, c.if-self-eq0.false) in
    ∥∥₁_elim c.requires le_prop (λ follows. omega (arith, (follows some).long, c.bucket-here.ensures.within some))

pub loop-place-init : goal.loop-place-init
loop-place-init g c =
    let s = c.args.self.now in
    let rs = c.args.records.now in
    let tells = g.R.Record.tells in
    let some : 0 < s.heads = omega (arith, c.if-self-eq0.false) in (
      omega arith,
      ∥∥₁_map c.requires (λ follows.
          let all = left_all s.memory.now s.links s.heads (map tells rs) c.args.setting (follows some) in
          let from = subst (λ n. Left s.memory.now s.heads (map tells rs) c.args.setting n (get_or s.memory.now (s.links + bucket_of s.heads c.args.setting) 0)) (length-map rs tells) all in
          subst (λ b. Left s.memory.now s.heads (map tells rs) c.args.setting (length rs) (get_or s.memory.now (s.links + b) 0)) (sym c.bucket-here.ensures.is) from),
    )

pub returns-then-told-setting : goal.returns-then-told-setting
returns-then-told-setting g c =
    let rs = c.args.records.now in
    let tells = g.R.Record.tells in
    let inside : c.loop-place.place < length rs = omega (arith, c.loop-place-test.true, c.loop-place.invariant.0) in
    let told = told_here tells rs c.loop-place.place c.index-records-place.result inside c.index-records-place.is ∙ sym c.setting-told.ensures in
    sym (has_at (map tells rs) c.loop-place.place c.args.setting (omega (arith, inside, length-map rs tells)) (told ∙ c.if-told-setting.true))

pub returns-then-bucket-here : goal.returns-then-bucket-here
returns-then-bucket-here g c =
    let s = c.args.self.now in
    let rs = c.args.records.now in
    let tells = g.R.Record.tells in
    let inside : c.loop-place.place < length rs = omega (arith, c.loop-place-test.true, c.loop-place.invariant.0) in
    let told = told_here tells rs c.loop-place.place c.index-records-place.result inside c.index-records-place.is ∙ sym c.setting-told.ensures in
    ∥∥₁_elim c.loop-place.invariant.1 (Bool-set _ _) (λ left.
    sym (left_bucket s.memory.now s.heads (map tells rs) c.args.setting c.loop-place.above c.loop-place.place left
    (λ e. c.if-told-setting.false (sym told ∙ e))
    (λ e. c.if-bucket-here.true (c.bucket.ensures.is ∙ ap (bucket_of s.heads) (sym told) ∙ e ∙ sym c.bucket-here.ensures.is))))

pub linked-place-requires : goal.linked-place-requires
linked-place-requires g c =
    let some : 0 < c.args.self.now.heads = omega (arith, c.if-self-eq0.false) in
    let long = length-map c.args.records.now g.R.Record.tells in
    ∥∥₁_elim c.requires le_prop (λ follows. omega (arith, c.loop-place-test.true, c.loop-place.invariant.0, (follows some).linked, (follows some).long, long))

pub loop-place-preserved : goal.loop-place-preserved
loop-place-preserved g c =
    let s = c.args.self.now in
    let rs = c.args.records.now in
    let tells = g.R.Record.tells in
    let inside : c.loop-place.place < length rs = omega (arith, c.loop-place-test.true, c.loop-place.invariant.0) in
    let told = told_here tells rs c.loop-place.place c.index-records-place.result inside c.index-records-place.is ∙ sym c.setting-told.ensures in (
      omega (arith, inside),
      ∥∥₁_map c.loop-place.invariant.1 (λ left.
          let next = left_next s.memory.now s.heads (map tells rs) c.args.setting c.loop-place.above c.loop-place.place left (λ e. c.if-told-setting.false (sym told ∙ e)) in
          subst (λ q. Left s.memory.now s.heads (map tells rs) c.args.setting c.loop-place.place q) (sym c.linked-place.ensures) next),
    )

pub returns : goal.returns
returns g c =
    let s = c.args.self.now in
    let rs = c.args.records.now in
    ∥∥₁_elim c.loop-place.invariant.1 (Bool-set _ _) (λ left. sym (left_none s.memory.now s.heads (map g.R.Record.tells rs) c.args.setting c.loop-place.above c.loop-place.place left c.loop-place-test.false))
