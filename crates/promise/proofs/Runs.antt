-- What every call keeps of a sequencer's state and of what is read from the accepted calls. Over any lawful meaning.
use Rattle.std.proofs.Common.{◌≡◌, ℕ, ◌<◌, true, false, not, ◌&&◌, ◌||◌, ◌↔◌, List, [], ◌∷◌, length, Some, None, Ok, Option, sym, refl, ap, ◌∙◌, subst}
use mathlib.Core.Path.{fun_ext}
use Rattle.std.proofs.lemmas.List.{length-replicate}
use Rattle.plant.specs.Meaning.{Meaning, Steps}
use Rattle.plant.specs.Laws.{Lawful}
use Rattle.tagged.specs.Tags.{untagged, bears, covers, cover}
use Rattle.tagged.specs.Meaning.{tagged}
use Rattle.tagged.specs.TagsLemmas.{bears_untagged}
use Rattle.tagged.specs.Laws.{tagged_lawful, untagged_steps}
use Rattle.legs.specs.Layers.{Leg}
use Rattle.legs.specs.Lists.{landing}
use Rattle.legs.specs.Answers.{Counted}
use Rattle.legs.specs.Plans.{plan_list}
use Rattle.legs.proofs.Earliest.{some_none}
use Rattle.promise.specs.Calls.{Call, tag, untag, plan, done, drop_list, hand_move}
use Rattle.promise.specs.Readings.{Work, Asked, setting_of, tagged_in, without, untagged_plant, last_plan, since_plan, or_empty, planned_list, LeftOf, InHand}
use Rattle.promise.specs.States.{State, fresh, asked, replaced, behind_first, moved_on, refusal, effect}
use Rattle.promise.specs.Promise.{Best}
use Rattle.promise.proofs.Best.{best_behind}
use Rattle.promise.proofs.Tags.{covered_long, tag_told, untag_told, best_spared}
use Rattle.promise.proofs.Hand.{work_is, some_same, spared_some, tag_list, done_list, ended_list}
use Rattle.promise.proofs.Plans.{planned_found, planned_right}
use Rattle.promise.proofs.Refused.{tag_below, untag_below, hand_below, answered_ok, done_first}

-- what is kept, if ks are the accepted calls
pub record Kept (m : Meaning) (ks : List Call) (q : State) : Type 0 where
  pub long : length q.tags ≡ 2048
  pub within : q.setting < m.settings
  pub setting_is : q.setting ≡ setting_of m ks
  pub tags_are : (o : ℕ) → bears m q.tags o ≡ tagged_in m ks o
  pub told : (w : Work) → (q.list ≡ Some w) ↔ InHand m ks w
  pub best : (w : Work) → q.list ≡ Some w → Best (tagged m q.tags) q.setting w.target w.to_do

-- the plant with the tags is the plant without the operations that the calls tagged
pub same_plant : (m : Meaning) (ks : List Call) (q : State) → ((o : ℕ) → bears m q.tags o ≡ tagged_in m ks o) → tagged m q.tags ≡ untagged_plant m ks
same_plant m ks q h = ap (without m) (fun_ext h)

no_best : (m : Meaning) (s : ℕ) (w : Work) → None ≡ Some w → Best m s w.target w.to_do
no_best m s w e = absurd (some_none (Some w) w refl (sym e))

module _ (m : Meaning) (lawful : Lawful m) where
  pub kept_fresh : Kept m [] fresh
  kept_fresh =
      record {
        long = length-replicate 2048 false;
        within = lawful.settings_some;
        setting_is = refl;
        tags_are = bears_untagged m;
        told = λ w. (λ e. absurd (some_none (Some w) w refl (sym e)), λ h. absurd h);
        best = no_best (tagged m untagged) 0;
      }

  module _ (ks : List Call) (q : State) (kept : Kept m ks q) where
    kept_tag : (o : ℕ) → refusal m q (tag o) ≡ None → Kept m (tag o ∷ ks) (effect m q (tag o))
    kept_tag o h =
        let below = tag_below m q.tags o h in
        record {
          long = covered_long m q.tags o true kept.long;
          within = kept.within;
          setting_is = kept.setting_is;
          tags_are = λ k. tag_told m lawful q.tags kept.long o below k ∙ ap (λ b. covers m o k || b) (kept.tags_are k);
          told = tag_list m o (since_plan ks) (last_plan ks) q.list kept.told;
          best = λ w e.
              let s = spared_some m o q.list w e in
              best_spared m lawful q.tags kept.long o below q.setting w.target w.to_do s.1 (kept.best w s.0);
        }

    kept_untag : (o : ℕ) → refusal m q (untag o) ≡ None → Kept m (untag o ∷ ks) (effect m q (untag o))
    kept_untag o h =
        let below = untag_below m q.tags o h in
        record {
          long = covered_long m q.tags o false kept.long;
          within = kept.within;
          setting_is = kept.setting_is;
          tags_are = λ k. untag_told m lawful q.tags kept.long o below k ∙ ap (λ b. not (covers m o k) && b) (kept.tags_are k);
          told = ended_list m (untag o) (since_plan ks) (last_plan ks) (never (last_plan ks));
          best = no_best (tagged m (cover m q.tags o false)) q.setting;
        }
      where
        never : (x : Option Asked) (w : Work) → LeftOf m (untag o ∷ since_plan ks) x w → ⊥
        never None w l = l
        never (Some a) w l = l.0

    kept_drop : Kept m (drop_list ∷ ks) (effect m q drop_list)
    kept_drop =
        record {
          long = kept.long;
          within = kept.within;
          setting_is = kept.setting_is;
          tags_are = kept.tags_are;
          told = ended_list m drop_list (since_plan ks) (last_plan ks) (never (last_plan ks));
          best = no_best (tagged m q.tags) q.setting;
        }
      where
        never : (x : Option Asked) (w : Work) → LeftOf m (drop_list ∷ since_plan ks) x w → ⊥
        never None w l = l
        never (Some a) w l = l.0

    kept_hand : (s : ℕ) → refusal m q (hand_move s) ≡ None → Kept m (hand_move s ∷ ks) (effect m q (hand_move s))
    kept_hand s h =
        record {
          long = kept.long;
          within = hand_below m s h;
          setting_is = refl;
          tags_are = kept.tags_are;
          told = ended_list m (hand_move s) (since_plan ks) (last_plan ks) (never (last_plan ks));
          best = no_best (tagged m q.tags) s;
        }
      where
        never : (x : Option Asked) (w : Work) → LeftOf m (hand_move s ∷ since_plan ks) x w → ⊥
        never None w l = l
        never (Some a) w l = l.0

    -- the first operation of the list in hand steps, below and by the untagged
    done_steps : (o : ℕ) → refusal m q (done o) ≡ None → (u : ℕ) × Steps m q.setting o u × ((w : Work) → moved_on q.list ≡ Some w → Best (tagged m q.tags) u w.target w.to_do)
    done_steps o h =
        let f = done_first o q.list h in
        let w : Work = f.0 in
        let b : Best (tagged m q.tags) q.setting w.target (o ∷ f.1) = subst (Best (tagged m q.tags) q.setting w.target) f.3 (kept.best w f.2) in
        let u : ℕ = b.leads.0 in
        let rest : Best (tagged m q.tags) u w.target f.1 = best_behind (tagged m q.tags) q.setting u w.target o f.1 b b.leads.1 in
        (u, (untagged_steps m q.tags q.setting o u b.leads.1).1, left w f.1 f.2 f.3 u rest)
      where
        left :
            (w : Work) (ps : List ℕ) → q.list ≡ Some w → w.to_do ≡ o ∷ ps → (u : ℕ) → Best (tagged m q.tags) u w.target ps
            → (v : Work) → moved_on q.list ≡ Some v → Best (tagged m q.tags) u v.target v.to_do
        left w ps e first u b v moved =
            let Left : Work → Type 0 = λ x. Best (tagged m q.tags) u x.target x.to_do in
            let at : record { target = w.target; to_do = ps } ≡ v = some_same (record { target = w.target; to_do = ps }) v (sym (ap moved_on e ∙ ap (λ os. Some (record { target = w.target; to_do = behind_first os })) first) ∙ moved) in
            subst Left at b

    kept_done : (o : ℕ) → refusal m q (done o) ≡ None → Kept m (done o ∷ ks) (effect m q (done o))
    kept_done o h =
        let d = done_steps o h in
        let u : ℕ = d.0 in
        let lands : u ≡ landing q.setting (m.step q.setting o) = ap (landing q.setting) (sym d.1) in
        record {
          long = kept.long;
          within = subst (λ s. s < m.settings) lands (lawful.step_within q.setting o u d.1);
          setting_is = ap (λ s. landing s (m.step s o)) kept.setting_is;
          tags_are = kept.tags_are;
          told = done_list m o (since_plan ks) (last_plan ks) q.list kept.told;
          best = λ w e. subst (λ s. Best (tagged m q.tags) s w.target w.to_do) lands (d.2 w e);
        }

    -- the list of an accepted plan is the one that the calls tell
    plan_told : (t b n : ℕ) (a : Counted (List ℕ)) → asked m q t b n ≡ Ok a → a.found ≡ planned_list m (record { target = t; bound = b; before = ks })
    plan_told t b n a e =
        let g : Leg = record { start = q.setting; target = t; bound = b } in
        let at : Leg → Type 0 = λ l. a.found ≡ or_empty (plan_list (untagged_plant m ks) l) in
        let found : a.found ≡ or_empty (plan_list (tagged m q.tags) g) = ap or_empty (sym (planned_found (tagged m q.tags) g n a e)) in
        let there : a.found ≡ or_empty (plan_list (untagged_plant m ks) g) = subst (λ v. a.found ≡ or_empty (plan_list v g)) (same_plant m ks q kept.tags_are) found in
        subst at (ap (λ s. record { start = s; target = t; bound = b }) kept.setting_is) there

    kept_plan : (t b n : ℕ) → refusal m q (plan t b n) ≡ None → Kept m (plan t b n ∷ ks) (effect m q (plan t b n))
    kept_plan t b n h =
        let ok = answered_ok (asked m q t b n) h in
        let a : Counted (List ℕ) = ok.0 in
        let list : replaced t q.list (asked m q t b n) ≡ Some (record { target = t; to_do = a.found }) = ap (replaced t q.list) ok.1 in
        let is = plan_told t b n a ok.1 in
        let g : Leg = record { start = q.setting; target = t; bound = b } in
        let right = planned_right (tagged m q.tags) (tagged_lawful m q.tags lawful) g n a ok.1 in
        record {
          long = kept.long;
          within = kept.within;
          setting_is = kept.setting_is;
          tags_are = kept.tags_are;
          told = λ w. (
            λ e. let at : w ≡ record { target = t; to_do = a.found } = some_same w (record { target = t; to_do = a.found }) (sym e ∙ list) in (tt, ap (λ x. x.target) at, ap (λ x. x.to_do) at ∙ is),
            λ l. list ∙ ap (λ x. Some x) (work_is (record { target = t; to_do = a.found }) w (sym l.1) (is ∙ sym l.2)),
          );
          best = λ w e.
              let At : Work → Type 0 = λ x. Best (tagged m q.tags) q.setting x.target x.to_do in
              subst At (some_same (record { target = t; to_do = a.found }) w (sym list ∙ e)) right.best;
        }

    pub kept_on : (k : Call) → refusal m q k ≡ None → Kept m (k ∷ ks) (effect m q k)
    kept_on (tag o) h = kept_tag o h
    kept_on (untag o) h = kept_untag o h
    kept_on (plan t b n) h = kept_plan t b n h
    kept_on (done o) h = kept_done o h
    kept_on drop_list h = kept_drop
    kept_on (hand_move s) h = kept_hand s h
