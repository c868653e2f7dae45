-- The laws of legs, over any lawful meaning.
use Rattle.std.proofs.Common.{subst, arith}
use Rattle.legs.specs.Laws.{Holds, LegsLawful}
use Rattle.legs.proofs.Layers.{layer_first, first_holds, layered, apart, near}
use Rattle.legs.proofs.Ends.{least, none_within, end_ends, before_end}
use Rattle.legs.proofs.Few.{layer_distinct, few}
use Rattle.legs.proofs.Need.{need_one, need_room, need_above}

pub legs_lawful : LegsLawful
legs_lawful m lawful =
    record {
      begins = λ g u. (λ h. ((layer_first m g u h).0, omega (arith, (layer_first m g u h).1)), λ r. subst (Holds m g 0) r.0 (first_holds m g (omega (arith, r.1))));
      layered = λ g. layered m g lawful;
      once = λ g. layer_distinct m g;
      apart = λ g. apart m g;
      near = λ g. near m g lawful;
      least = λ g. least m g lawful;
      none_within = λ g. none_within m g lawful;
      few = λ g d below. few m g lawful below d;
      ends_first = λ g. (end_ends m g, before_end m g);
      needs_most = λ g. (need_one m g, need_room m g, need_above m g);
    }
