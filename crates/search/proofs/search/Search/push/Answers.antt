-- The new record stands behind the others, and the lookup is told.
use Rattle.std.proofs.Common.{◌≡◌, ◌+◌, false, [], ◌∷◌, ◌++◌, map, length, take, set, sym, ap, ◌∙◌, subst, arith, length-set}
use Rattle.std.proofs.Math.Logic.{∥∥₁_map}
use lib.ListN.{length-map}
use Rattle.std.proofs.lemmas.List.{take_more_set, map_push, length-take-le}
use Rattle.legs.specs.Layers.{has}
use Rattle.search.specs.Stored.{standing, store_of}
use Rattle.search.proofs.search.Search.push.Goals as goal

pub invariant_of-self : goal.invariant_of-self
invariant_of-self g c =
    let s = store_of c.args.self.now in
    let tells = g.R.Record.tells in
    let place = c.count-place.result in
    let one : s.before + s.present + (s.next + 1) ≡ place + 1 = omega (arith, c.count-place.ensures) in
    let pushed : take (s.before + s.present + (s.next + 1)) (set s.room place c.args.new) ≡ standing s ++ (c.args.new ∷ []) =
    ap (λ k. take k (set s.room place c.args.new)) one ∙ take_more_set s.room place c.args.new c.if-place-self.false ∙ ap (λ k. take k s.room ++ (c.args.new ∷ [])) c.count-place.ensures in
    let long : length (map tells (standing s)) ≡ place = length-map (standing s) tells ∙ length-take-le (s.before + s.present + s.next) s.room c.args.self.now.within ∙ sym c.count-place.ensures in
    let unmet = subst (λ u. has (map tells (standing s)) u ≡ false) (sym c.setting.ensures) c.requires in
    let all = ap (λ u. map tells (standing s) ++ (u ∷ [])) c.setting.ensures ∙ sym (ap (map tells) pushed ∙ map_push tells (standing s) c.args.new) in
    record {
      within = omega (arith, one, c.if-place-self.false, length-set s.room place c.args.new);
      followed = ∥∥₁_map c.args.self.now.followed (λ follows. subst (λ xs. g.L.Lookup.follows c.enter.new.self xs) all (c.enter.ensures (map tells (standing s)) long unmet follows));
    }
