-- What a tag or an untag makes of the tags that are read from the calls, and of a list that a tag spares. Over any lawful meaning.
use Rattle.std.proofs.Common.{◌≡◌, ℕ, ◌<◌, Bool, true, false, cond, not, ◌&&◌, ◌||◌, List, [], ◌∷◌, length, set, refl, ap, ◌∙◌}
use Rattle.std.proofs.lemmas.List.{length-set}
use Rattle.std.proofs.lemmas.Bool.{or_parts}
use Rattle.plant.specs.Meaning.{Meaning}
use Rattle.plant.specs.Laws.{Lawful}
use Rattle.tagged.specs.Tags.{bears, covers, cover}
use Rattle.tagged.specs.Meaning.{tagged}
use Rattle.tagged.specs.TagsLemmas.{covered_only}
use Rattle.tagged.specs.Laws.{Free, untagged_leads, leads_free, free_leads}
use Rattle.promise.specs.Readings.{touches}
use Rattle.promise.specs.Promise.{Best}
use Rattle.promise.proofs.Best.{best_fewer}

pub covered_long : (m : Meaning) (tags : List Bool) (o : ℕ) (on : Bool) → length tags ≡ 2048 → length (cover m tags o on) ≡ 2048
covered_long m tags o on long = length-set (set tags o on) (m.reverse o) on ∙ length-set tags o on ∙ long

tag_read : (c b : Bool) → cond c true b ≡ (c || b)
tag_read true b = refl
tag_read false b = refl

untag_read : (c b : Bool) → cond c false b ≡ (not c && b)
untag_read true b = refl
untag_read false b = refl

module _ (m : Meaning) (lawful : Lawful m) (tags : List Bool) (long : length tags ≡ 2048) (o : ℕ) (below : o < m.operations) where
  pub tag_told : (k : ℕ) → bears m (cover m tags o true) k ≡ (covers m o k || bears m tags k)
  tag_told k = covered_only m tags o true lawful long below k ∙ tag_read (covers m o k) (bears m tags k)

  pub untag_told : (k : ℕ) → bears m (cover m tags o false) k ≡ (not (covers m o k) && bears m tags k)
  untag_told k = covered_only m tags o false lawful long below k ∙ untag_read (covers m o k) (bears m tags k)

  -- what is free of the tags with one more is free of the tags
  still_free : (ps : List ℕ) → Free m (cover m tags o true) ps → Free m tags ps
  still_free [] f = tt
  still_free (p ∷ ps) f = ((or_parts (covers m o p) (bears m tags p) (sym_told p f.0)).1, still_free ps f.1)
    where
      sym_told : (k : ℕ) → bears m (cover m tags o true) k ≡ false → (covers m o k || bears m tags k) ≡ false
      sym_told k e = let h = tag_told k in cc

  -- and what the tag spares stays free
  spared_free : (ps : List ℕ) → touches m o ps ≡ false → Free m tags ps → Free m (cover m tags o true) ps
  spared_free [] e f = tt
  spared_free (p ∷ ps) e f =
      let parts = or_parts (covers m o p) (touches m o ps) e in (
        tag_told p ∙ ap (λ b. b || bears m tags p) parts.0 ∙ f.0,
        spared_free ps parts.1 f.1,
      )

  -- a list that the tag spares stays the best
  pub best_spared :
      (s t : ℕ) (os : List ℕ) → touches m o os ≡ false → Best (tagged m tags) s t os → Best (tagged m (cover m tags o true)) s t os
  best_spared s t os e b =
      let more = cover m tags o true in
      best_fewer (tagged m tags) (tagged m more) s t os
      (λ ps h. leads_free m tags ps s t (still_free ps (free_leads m more ps s t h)) (untagged_leads m more ps s t h))
      (leads_free m more os s t (spared_free os e (free_leads m tags os s t b.leads)) (untagged_leads m tags os s t b.leads))
      b
