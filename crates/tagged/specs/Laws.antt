-- A tagged plant is lawful where the plant below is. Assumes nothing.
use Rattle.std.specs.Prelude.{◌≡◌, ℕ, Bool, true, false, cond, List, [], ◌∷◌, Some, None, Option, refl}
use Rattle.std.proofs.Common.{ap, ◌∙◌, arith}
use Rattle.plant.specs.Meaning.{Meaning, Steps, Leads}
use Rattle.plant.specs.Laws.{Lawful}
use Rattle.tagged.specs.Tags.{bears}
use Rattle.tagged.specs.Meaning.{tagged}
use Rattle.tagged.specs.TagsLemmas.{bears_reverse}

-- what is not taken out
left_in : (b : Bool) (o : Option ℕ) (t : ℕ) → cond b None o ≡ Some t → (b ≡ false) × (o ≡ Some t)
left_in true o t e = let z : ◌≡◌ {A = ℕ} 0 1 = cc in absurd (omega arith)
left_in false o t e = (refl, e)

none_left : (b : Bool) (o : Option ℕ) → o ≡ None → cond b None o ≡ None
none_left true o e = refl
none_left false o e = e

-- every step of the tagged plant is one of the plant below, by an operation that bears no tag
pub untagged_steps : (m : Meaning) (tags : List Bool) (s o t : ℕ) → Steps (tagged m tags) s o t → (bears m tags o ≡ false) × Steps m s o t
untagged_steps m tags s o t e = left_in (bears m tags o) (m.step s o) t e

pub steps_untagged : (m : Meaning) (tags : List Bool) (s o t : ℕ) → bears m tags o ≡ false → Steps m s o t → Steps (tagged m tags) s o t
steps_untagged m tags s o t free e = ap (λ b. cond b None (m.step s o)) free ∙ e

-- every list of the tagged plant is one of the plant below
pub untagged_leads : (m : Meaning) (tags : List Bool) (os : List ℕ) (s t : ℕ) → Leads (tagged m tags) s os t → Leads m s os t
untagged_leads m tags [] s t e = e
untagged_leads m tags (o ∷ os) s t (u, steps, leads) =
    (u, (untagged_steps m tags s o u steps).1, untagged_leads m tags os u t leads)

-- no operation of the list bears a tag
abbrev pub Free : Meaning → List Bool → List ℕ → Type 0
Free m tags [] = Unit {0}
Free m tags (o ∷ os) = (bears m tags o ≡ false) × Free m tags os

-- a list of the plant below is one of the tagged plant exactly when it is free of tags
pub leads_free : (m : Meaning) (tags : List Bool) (os : List ℕ) (s t : ℕ) → Free m tags os → Leads m s os t → Leads (tagged m tags) s os t
leads_free m tags [] s t free e = e
leads_free m tags (o ∷ os) s t (here, rest) (u, steps, leads) =
    (u, steps_untagged m tags s o u here steps, leads_free m tags os u t rest leads)

pub free_leads : (m : Meaning) (tags : List Bool) (os : List ℕ) (s t : ℕ) → Leads (tagged m tags) s os t → Free m tags os
free_leads m tags [] s t e = tt
free_leads m tags (o ∷ os) s t (u, steps, leads) = ((untagged_steps m tags s o u steps).0, free_leads m tags os u t leads)

pub tagged_lawful : (m : Meaning) (tags : List Bool) → Lawful m → Lawful (tagged m tags)
tagged_lawful m tags l = record {
  settings_some = l.settings_some;
  settings_most = l.settings_most;
  operations_most = l.operations_most;
  estimate_most = l.estimate_most;
  step_within = λ s o t steps. l.step_within s o t (untagged_steps m tags s o t steps).1;
  reverse_within = l.reverse_within;
  setting_past = λ s o h. none_left (bears m tags o) (m.step s o) (l.setting_past s o h);
  operation_past = λ s o h. none_left (bears m tags o) (m.step s o) (l.operation_past s o h);
  reverse_past = l.reverse_past;
  start_past = l.start_past;
  target_past = l.target_past;
  reverse_twice = l.reverse_twice;
  steps_back = λ s o t steps.
      let was = untagged_steps m tags s o t steps in
      steps_untagged m tags t (m.reverse o) s (bears_reverse m tags l o ∙ was.0) (l.steps_back s o t was.1);
  estimate_least = λ os s t leads. l.estimate_least os s t (untagged_leads m tags os s t leads);
}
