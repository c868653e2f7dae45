-- The laws of plans, over any lawful meaning.
use Rattle.legs.specs.PlanLaws.{PlansLawful}
use Rattle.legs.proofs.Earliest.{found_earliest, earliest_found, earliest_none}
use Rattle.legs.proofs.Parts.{parts}
use Rattle.legs.proofs.Fetch.{halves, fetches, relays_halfway}
use Rattle.legs.proofs.Plans.{measures, plans}

pub plans_lawful : PlansLawful
plans_lawful m lawful =
    record {
      finds = λ n s t os. (found_earliest m lawful n s t os, earliest_found m lawful n s t os);
      finds_none = earliest_none m lawful;
      parts = parts m;
      relays_halfway = relays_halfway m lawful;
      fetches = fetches m lawful;
      halves = halves m;
      measures = measures m lawful;
      plans = plans m lawful;
    }
