-- The promise holds over all calls from the making on, and each call keeps it. Over any lawful meaning.
use Rattle.std.proofs.Common.{◌≡◌, ℕ, ◌<◌, ◌≤◌, List, [], ◌∷◌, Some, None, Option, sym, refl, ap, ◌∙◌, subst}
use Rattle.plant.specs.Meaning.{Meaning}
use Rattle.plant.specs.Laws.{Lawful}
use Rattle.plant.specs.declared.refusal.Refusal.{Refusal}
use Rattle.tagged.specs.Meaning.{tagged}
use Rattle.tagged.specs.Laws.{tagged_lawful}
use Rattle.legs.specs.Plans.{planned}
use Rattle.legs.specs.PlanLaws.{InRange}
use Rattle.promise.specs.Calls.{Call, accepted_first, accepted}
use Rattle.promise.specs.Readings.{untagged_plant, leg_of}
use Rattle.promise.specs.States.{State, asked, refusal, effect, unless_refused, next, after_calls, history}
use Rattle.promise.specs.Promise.{Best, Answered, Enough, Holds, PromiseKept, KeepsOn}
use Rattle.promise.proofs.Since.{tagged_since, since_tagged}
use Rattle.promise.proofs.Plans.{refused_rightly, accepted_otherwise}
use Rattle.promise.proofs.Runs.{Kept, same_plant, kept_fresh, kept_on}

module _ (m : Meaning) (lawful : Lawful m) where
  kept_holds : (ks : List Call) (q : State) → Kept m ks q → Holds m ks q
  kept_holds ks q kept =
      record {
        setting_told = kept.setting_is;
        tags_told = kept.tags_are;
        tags_since = λ o. (tagged_since m o ks, since_tagged m o ks);
        list_told = kept.told;
        list_best = λ w e.
            subst (λ s. Best (untagged_plant m ks) s w.target w.to_do) kept.setting_is
            (subst (λ v. Best v q.setting w.target w.to_do) same (kept.best w e));
        plan_answered = answered;
      }
    where
      same : tagged m q.tags ≡ untagged_plant m ks
      same = same_plant m ks q kept.tags_are

      plant_lawful : Lawful (untagged_plant m ks)
      plant_lawful = subst Lawful same (tagged_lawful m q.tags lawful)

      answered : (t b n : ℕ) → t < m.settings → b ≤ 255 → Enough (untagged_plant m ks) (leg_of m ks t b) n → Answered m ks q t b n
      answered t b n there low enough =
          let now : asked m q t b n ≡ planned (untagged_plant m ks) (leg_of m ks t b) n =
          ap (λ v. planned v (record { start = q.setting; target = t; bound = b }) n) same
          ∙ ap (λ s. planned (untagged_plant m ks) (record { start = s; target = t; bound = b }) n) kept.setting_is in
          let range : InRange (untagged_plant m ks) (leg_of m ks t b) = (subst (λ s. s < m.settings) kept.setting_is kept.within, there, low) in
          let u = untagged_plant m ks in
          let g = leg_of m ks t b in
          record {
            refused = (
              λ e. (refused_rightly u plant_lawful g n range enough).0 (sym now ∙ e),
              λ h. now ∙ (refused_rightly u plant_lawful g n range enough).1 h,
            );
            otherwise = λ reached. let a = accepted_otherwise u plant_lawful g n range enough reached in (a.0, now ∙ a.1, a.2);
          }

  kept_next : (x : Option Refusal) (k : Call) (ks : List Call) (q after : State) → Kept m ks q → (x ≡ None → Kept m (k ∷ ks) after) → Kept m (accepted_first x k ks) (unless_refused x q after)
  kept_next None k ks q after kept on = on refl
  kept_next (Some e) k ks q after kept on = kept

  kept_after : (ks : List Call) → Kept m (accepted (history m ks)) (after_calls m ks)
  kept_after [] = kept_fresh m lawful
  kept_after (k ∷ ks) =
      let q = after_calls m ks in
      let before = kept_after ks in
      kept_next (refusal m q k) k (accepted (history m ks)) q (effect m q k) before (kept_on m lawful (accepted (history m ks)) q before k)

  pub holds_after : (ks : List Call) → Holds m (accepted (history m ks)) (after_calls m ks)
  holds_after ks = kept_holds (accepted (history m ks)) (after_calls m ks) (kept_after ks)

  pub keeps_on : (before : State) (k : Call) (after : State) → after ≡ next m before k → KeepsOn m before k after
  keeps_on before k after e ks at =
      let there : after ≡ after_calls m (k ∷ ks) = e ∙ ap (λ q. next m q k) at in
      (there, subst (Holds m (accepted (history m (k ∷ ks)))) (sym there) (holds_after (k ∷ ks)))

pub promise_kept : PromiseKept
promise_kept m lawful ks = holds_after m lawful ks
