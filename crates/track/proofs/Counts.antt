-- The checks of a track are those of its counts, and then those of its links. Assumes nothing.
use Rattle.std.proofs.Common.{◌≡◌, ℕ, ◌≤◌, Bool, true, false, cond, ◌||◌, eqb, ltb, List, length, Some, None, Option, refl, ap, ◌∙◌}
use Rattle.std.proofs.lemmas.Bool.{ltb-false}
use Rattle.track.specs.declared.link.Link.{Link}
use Rattle.track.specs.declared.link.TrackFault.{TrackFault}
use Rattle.track.specs.declared.link.TrackFault.TheVariants.{Stations, Links}
use Rattle.track.specs.Fault.{before, rows_fault, counts_fault, fault}

tests_first : (a b : Bool) (o : Option TrackFault) → before (cond a (Some Stations) (cond b (Some Links) None)) o ≡ cond a (Some Stations) (cond b (Some Links) o)
tests_first true b o = refl
tests_first false true o = refl
tests_first false false o = refl

pub counts_first : (n : ℕ) (ls : List Link) → before (counts_fault n (length ls)) (rows_fault n 0 ls) ≡ fault n ls
counts_first n ls = tests_first (eqb n 0 || ltb 512 n) (ltb 1024 (length ls)) (rows_fault n 0 ls)

-- what is wrong with the counts is told first
pub counts_wrong : (n m : ℕ) (ls : List Link) (f : TrackFault) → m ≡ length ls → Some f ≡ counts_fault n m → Some f ≡ fault n ls
counts_wrong n m ls f p e = ap (λ o. before o (rows_fault n 0 ls)) (e ∙ ap (counts_fault n) p) ∙ counts_first n ls

-- else the links tell
pub counts_right : (n m : ℕ) (ls : List Link) → m ≡ length ls → None ≡ counts_fault n m → rows_fault n 0 ls ≡ fault n ls
counts_right n m ls p e = ap (λ o. before o (rows_fault n 0 ls)) (e ∙ ap (counts_fault n) p) ∙ counts_first n ls

-- and there are not too many
test_passed : (b : Bool) (f : TrackFault) (o : Option TrackFault) → None ≡ cond b (Some f) o → (b ≡ false) × (None ≡ o)
test_passed true f o e = cc
test_passed false f o e = (refl, e)

pub counts_few : (n m : ℕ) → None ≡ counts_fault n m → m ≤ 1024
counts_few n m e = ltb-false 1024 m (test_passed _ _ _ (test_passed _ _ _ e).1).0
