-- A track without a fault is lawful. Assumes nothing.
use Rattle.std.specs.Prelude.{◌≡◌, ℕ, ◌<◌, ◌≤◌, false, ◌⊎◌, List, [], ◌∷◌, length, is_some, Some, None, Option, ◌≢◌, refl}
use Rattle.std.proofs.Common.{sym, subst, ⊎_elim, ap, ◌∙◌, inl, inr, arith}
use Rattle.std.specs.List.{slice_get}
use Rattle.std.proofs.lemmas.Bool.{cases_lt}
use Rattle.std.proofs.lemmas.Option.{slice_get_past, get_or_from_slice_get, none-some}
use Rattle.std.proofs.lemmas.Bool.Decides.{nat_tests}
use Rattle.plant.specs.Meaning.{Leads}
use Rattle.plant.specs.Laws.{Lawful}
use Rattle.plant.specs.Options.{none_from_test}
use Rattle.track.specs.declared.link.Link.{Link}
use Rattle.track.specs.Fault.{fault}
use Rattle.track.specs.Data.{Joins, TrackData}
use Rattle.track.specs.Faultless.{data_from_none}
use Rattle.track.specs.Track.{track, along, apart}

-- a link that an operation goes along joins two stations
joins_at : (n : ℕ) (links : List Link) → TrackData n links → (r : ℕ) (link : Link) → slice_get links r ≡ Some link → Joins n link
joins_at n links k r link is =
    ⊎_elim
    (λ h. subst (Joins n) (get_or_from_slice_get links r link link is) (k.joins r link h))
    (λ h. absurd (none-some link (sym (slice_get_past links r h) ∙ is)))
    (cases_lt r (length links))

-- a step goes from one end of a link to the other
abbrev Between : Link → ℕ → ℕ → Type 0
Between link s t = ((s ≡ link.one) × (t ≡ link.other)) ⊎ ((s ≡ link.other) × (t ≡ link.one))

along_between : (link : Link) (s t : ℕ) → along (Some link) s ≡ Some t → Between link s t
along_between link s t e = grind (arith, nat_tests)

between_along : (n : ℕ) (link : Link) (s t : ℕ) → Joins n link → Between link s t → along (Some link) t ≡ Some s
between_along n link s t j (inl e) = grind (arith, nat_tests)
between_along n link s t j (inr e) = grind (arith, nat_tests)

-- a step has its ends below n, and leads back
step_ends : (n : ℕ) (o : Option Link) (s t : ℕ) → ((link : Link) → o ≡ Some link → Joins n link) → along o s ≡ Some t → (s < n) × (t < n) × (along o t ≡ Some s)
step_ends n (Some link) s t joins e =
    let j = joins link refl in
    (grind (arith, nat_tests), grind (arith, nat_tests), between_along n link s t j (along_between link s t e))
step_ends n None s t joins e = let z : ◌≡◌ {A = ℕ} 0 1 = cc in absurd (omega arith)

-- no step where there could be none to a setting in range
none_unless : (o : Option ℕ) → ((t : ℕ) → o ≢ Some t) → o ≡ None
none_unless (Some t) no_step = absurd (no_step t refl)
none_unless None no_step = refl

apart_most : (n s t : ℕ) → apart n s t ≤ 1
apart_most n s t = grind (arith, nat_tests)

apart_least : (n : ℕ) (links : List Link) (os : List ℕ) (s t : ℕ) → Leads (track n links) s os t → apart n s t ≤ length os
apart_least n links [] s t same = grind (arith, nat_tests)
apart_least n links (o ∷ os) s t leads = let most = apart_most n s t in omega arith

pub track_lawful : (n : ℕ) (links : List Link) → is_some (fault n links) ≡ false → Lawful (track n links)
track_lawful n links e =
    let k = data_from_none n links (none_from_test _ e) in
    let joins = joins_at n links k in
    record {
      settings_some = k.stations_some;
      settings_most = omega arith;
      operations_most = omega arith;
      estimate_most = λ s t. let most = apart_most n s t in omega arith;
      step_within = λ s o t steps. (step_ends n (slice_get links o) s t (joins o) steps).1;
      reverse_within = λ o h. h;
      setting_past = λ s o h. none_unless _ (λ t steps. let within = (step_ends n (slice_get links o) s t (joins o) steps).0 in omega arith);
      operation_past = λ s o h. ap (λ l. along l s) (slice_get_past links o h);
      reverse_past = λ o h. refl;
      start_past = λ s t h. grind (arith, nat_tests);
      target_past = λ s t h. grind (arith, nat_tests);
      reverse_twice = λ o. refl;
      steps_back = λ s o t steps. (step_ends n (slice_get links o) s t (joins o) steps).2;
      estimate_least = apart_least n links;
    }
