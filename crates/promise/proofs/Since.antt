-- An operation is read as tagged exactly where a tag covered it and no untag has since. Assumes nothing.
use Rattle.std.proofs.Common.{◌≡◌, ℕ, true, not, List, [], ◌∷◌, ◌++◌, refl, ap, ◌∙◌, ⊎_elim}
use Rattle.std.proofs.lemmas.Bool.{false≢true, and_parts, and_from, or_left, or_right, or_cases, not-true, not_from_false}
use Rattle.plant.specs.Meaning.{Meaning}
use Rattle.tagged.specs.Tags.{covers}
use Rattle.promise.specs.Calls.{Call, tag, untag, plan, done, drop_list, hand_move}
use Rattle.promise.specs.Readings.{tagged_in, NoneFrees, TaggedSince}

module _ (m : Meaning) (k : ℕ) where
  -- one more call that does not free it
  later : (j : Call) (ks : List Call) → ((since : List Call) → NoneFrees m k since → NoneFrees m k (j ∷ since)) → TaggedSince m ks k → TaggedSince m (j ∷ ks) k
  later j ks free t =
      record {
        since = j ∷ t.since;
        o = t.o;
        before = t.before;
        calls = ap (λ l. j ∷ l) t.calls;
        covered = t.covered;
        not_freed = free t.since t.not_freed;
      }

  pub tagged_since : (ks : List Call) → tagged_in m ks k ≡ true → TaggedSince m ks k
  tagged_since [] e = absurd (false≢true e)
  tagged_since (tag o ∷ ks) e =
      ⊎_elim
      (λ c. record { since = []; o = o; before = ks; calls = refl; covered = c; not_freed = tt })
      (λ h. later (tag o) ks (λ since f. f) (tagged_since ks h))
      (or_cases (covers m o k) (tagged_in m ks k) e)
  tagged_since (untag o ∷ ks) e =
      let parts = and_parts (not (covers m o k)) (tagged_in m ks k) e in
      later (untag o) ks (λ since f. (not-true (covers m o k) parts.0, f)) (tagged_since ks parts.1)
  tagged_since (plan t b n ∷ ks) e = later (plan t b n) ks (λ since f. f) (tagged_since ks e)
  tagged_since (done o ∷ ks) e = later (done o) ks (λ since f. f) (tagged_since ks e)
  tagged_since (drop_list ∷ ks) e = later drop_list ks (λ since f. f) (tagged_since ks e)
  tagged_since (hand_move s ∷ ks) e = later (hand_move s) ks (λ since f. f) (tagged_since ks e)

  still_tagged : (since : List Call) (o : ℕ) (before : List Call) → covers m o k ≡ true → NoneFrees m k since → tagged_in m (since ++ (tag o ∷ before)) k ≡ true
  still_tagged [] o before c f = or_left (covers m o k) (tagged_in m before k) c
  still_tagged (tag p ∷ since) o before c f = or_right (covers m p k) (tagged_in m (since ++ (tag o ∷ before)) k) (still_tagged since o before c f)
  still_tagged (untag p ∷ since) o before c f =
      and_from (not (covers m p k)) (tagged_in m (since ++ (tag o ∷ before)) k) (not_from_false (covers m p k) f.0) (still_tagged since o before c f.1)
  still_tagged (plan t b n ∷ since) o before c f = still_tagged since o before c f
  still_tagged (done p ∷ since) o before c f = still_tagged since o before c f
  still_tagged (drop_list ∷ since) o before c f = still_tagged since o before c f
  still_tagged (hand_move s ∷ since) o before c f = still_tagged since o before c f

  pub since_tagged : (ks : List Call) → TaggedSince m ks k → tagged_in m ks k ≡ true
  since_tagged ks t = ap (λ l. tagged_in m l k) t.calls ∙ still_tagged t.since t.o t.before t.covered t.not_freed
