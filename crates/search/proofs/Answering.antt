-- What is found at a leg's end is its length, and what is zeroed is what it needs. Assumes nothing.
use Rattle.std.proofs.Common.{◌≡◌, ℕ, true, false, ltb, Some, None, Ok, Err, Result, sym, ap, ◌∙◌, subst}
use Rattle.std.proofs.lemmas.Bool.{cond-true, lt-ltb, le-ltb}
use Rattle.plant.specs.Meaning.{Meaning}
use Rattle.plant.specs.declared.refusal.Refusal.{Refusal}
use Rattle.plant.specs.declared.refusal.Refusal.TheVariants.{NoSuchSetting, Bound, Overfull, OutOfReach, NoSuchOperation, TaggedAlready, Untagged, NoList, WrongOperation}
use Rattle.legs.specs.Kinds.{Kind, Tells}
use Rattle.legs.specs.Layers.{Leg, has, settings}
use Rattle.legs.specs.Legs.{end, leg_length, expanded, need}
use Rattle.legs.specs.Answers.{answer, outside, too_high, measured}
use Rattle.legs.proofs.Tells.{in_layer}
use Rattle.search.specs.declared.leg_search.Reached.{Reached}
use Rattle.search.specs.Answered.{LegAnswer, RefusedBy, Searched}
use Rattle.search.specs.Walked.{AtEnd}

-- the length of a leg whose last layer has a record of the target, and of one whose last layer has none
pub length_hit : {R : Type 0} (m : Meaning) (k : Kind R) (t : Tells k) (g : Leg) (r : R) → AtEnd m k g (Some r) → leg_length m g ≡ Some (end m g)
length_hit m k t g r h =
    cond-true (has (settings m g (end m g)) g.target) (Some (end m g)) None (subst (λ u. has (settings m g (end m g)) u ≡ true) h.1 (in_layer m k t g (end m g) r h.0))

-- the answers in order: out of range first, then by what the search in range answers
module _ {R : Type 0} (m : Meaning) (k : Kind R) (g : Leg) (records : ℕ) where
  pub answers_outside : outside m g ≡ true → measured m g records ≡ Err NoSuchSetting
  answers_outside e = ap (λ b. answer b (too_high g) (ltb records (need m g)) (leg_length m g) (expanded m g)) e

  pub answers_high : outside m g ≡ false → too_high g ≡ true → measured m g records ≡ Err Bound
  answers_high e h =
      ap (λ b. answer b (too_high g) (ltb records (need m g)) (leg_length m g) (expanded m g)) e
      ∙ ap (λ b. answer false b (ltb records (need m g)) (leg_length m g) (expanded m g)) h

  module _ (inside : outside m g ≡ false) (low : too_high g ≡ false) where
    within : measured m g records ≡ answer false false (ltb records (need m g)) (leg_length m g) (expanded m g)
    within =
        ap (λ b. answer b (too_high g) (ltb records (need m g)) (leg_length m g) (expanded m g)) inside
        ∙ ap (λ b. answer false b (ltb records (need m g)) (leg_length m g) (expanded m g)) low

    refused_answer : (e : Refusal) → RefusedBy m g records e → measured m g records ≡ Err e
    refused_answer Overfull h = within ∙ ap (λ b. answer false false b (leg_length m g) (expanded m g)) (lt-ltb records (need m g) h)
    refused_answer OutOfReach h =
        within ∙ ap (λ b. answer false false b (leg_length m g) (expanded m g)) (le-ltb records (need m g) h.0)
        ∙ ap (λ o. answer false false false o (expanded m g)) h.1
    refused_answer NoSuchSetting h = absurd h
    refused_answer Bound h = absurd h
    refused_answer NoSuchOperation h = absurd h
    refused_answer TaggedAlready h = absurd h
    refused_answer Untagged h = absurd h
    refused_answer NoList h = absurd h
    refused_answer WrongOperation h = absurd h

    pub answers_within : (r : Result (Reached R) Refusal) → Searched m k g records r → LegAnswer m k g records r
    answers_within (Ok x) h = (
      within ∙ ap (λ b. answer false false b (leg_length m g) (expanded m g)) (le-ltb records (need m g) h.0)
          ∙ ap (λ o. answer false false false o (expanded m g)) h.1 ∙ ap (λ n. Ok (record { found = x.length; count = n })) (sym h.2),
      h.3,
    )
    answers_within (Err e) h = refused_answer e h
