-- The two layers behind are one place nearer to the front, and the lookup was told.
use Rattle.std.proofs.Common.{◌≡◌, ◌+◌, ◌-◌, map, take, drop, sym, refl, ap, ◌∙◌, subst, arith}
use Rattle.std.proofs.lemmas.List.{drop-map}
use Rattle.search.specs.Stored.{standing, stored}
use Rattle.search.proofs.moves.give_up.Goals as goal

pub returns : goal.returns
returns g c =
    let s = stored c.args.room.now c.args.sizes.now in
    let tells = g.R.Record.tells in
    let fewer : s.present + s.next + 0 ≡ s.before + s.present + s.next - s.before = omega arith in
    let stays : take (s.present + s.next + 0) c.move_down.new.room ≡ drop s.before (standing s) = ap (λ n. take n c.move_down.new.room) fewer ∙ c.move_down.ensures.front in
    let room = c.args.room.now in
    let whole : s.before + s.present + s.next - 0 ≡ s.before + s.present + s.next = omega arith in
    record {
      advanced =
          record {
            long = c.move_down.auto.room;
            befores = refl;
            presents = refl;
            nexts = refl;
            left = stays;
            behind = c.move_down.ensures.behind;
          };
      follows = λ follows. subst (λ xs. g.L.Lookup.follows c.lower.new.self xs) (ap (λ n. drop s.before (map tells (take n room))) whole ∙ drop-map tells s.before (standing s) ∙ ap (map tells) (sym stays))
          (c.lower.ensures (subst (λ n. g.L.Lookup.follows c.args.lookup.now (map tells (take n room))) (sym whole) follows));
    }
