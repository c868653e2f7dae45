-- What a file without a fault meets. Assumes nothing.
use Rattle.std.proofs.Common.{◌≡◌, ℕ, zero, suc, ◌+◌, ◌*◌, ◌≤◌, Bool, true, false, cond, not, eqb, ltb, List, drop, is_some, Some, None, Option, refl, arith}
use Rattle.std.specs.Option.{option_map}
use Rattle.std.proofs.lemmas.Bool.{and_from, eqb-true, true≢false}
use Rattle.std.proofs.lemmas.Bool.Decides.{nat_tests}
use Rattle.faults.specs.declared.fault.BodyFault.{BodyFault}
use Rattle.faults.specs.declared.fault.ContentsFault.{ContentsFault}
use Rattle.faults.specs.declared.fault.ContentsFault.TheVariants as contents
use Rattle.faults.specs.declared.fault.FileFault.{FileFault}
use Rattle.faults.specs.declared.fault.FileFault.TheVariants.{TooShort, TooLong, Contents, Body}
use Rattle.file.specs.declared.kind.Reader.{Reader}
use Rattle.file.specs.Kinds.{kind_of, takes, takes_kind}
use Rattle.file.specs.Contents.{row_kind, row_zero, rows_fault, known_rows}
use Rattle.file.specs.Parts.{first_fault}
use Rattle.file.specs.Read.{entries, rows, bodies_fault, contents_then, head_fault, length_fault, or_else, read_fault}

-- no fault at all is none of either
pub neither : (o g : Option FileFault) → or_else o g ≡ None → (o ≡ None) × (g ≡ None)
neither None g h = (refl, h)
neither (Some f) g h = cc

pub neither_contents : (o : Option ContentsFault) (g : Option FileFault) → contents_then o g ≡ None → (o ≡ None) × (g ≡ None)
neither_contents None g h = (refl, h)
neither_contents (Some f) g h = cc

pub neither_body : (o g : Option BodyFault) → first_fault o g ≡ None → (o ≡ None) × (g ≡ None)
neither_body None g h = (refl, h)
neither_body (Some f) g h = cc

pub none_mapped : {A B : Type 0} (f : A → B) (o : Option A) → option_map f o ≡ None → o ≡ None
none_mapped f None h = refl
none_mapped f (Some x) h = cc

pub none_from : {A : Type 0} (o : Option A) → is_some o ≡ false → o ≡ None
none_from None h = refl
none_from (Some x) h = absurd (true≢false h)

-- the four stages
pub record Accepted (r : Reader) (file : List ℕ) : Type 0 where
  pub head : head_fault file ≡ None
  pub contents : rows_fault r (entries file) 0 (rows file) ≡ None
  pub whole : length_fault file ≡ None
  pub bodies : bodies_fault file ≡ None

pub accepted : (r : Reader) (file : List ℕ) → read_fault r file ≡ None → Accepted r file
accepted r file h =
    let a = neither (head_fault file) _ h in
    let b = neither_contents (rows_fault r (entries file) 0 (rows file)) _ a.1 in
    let d = neither (length_fault file) _ b.1 in
    record { head = a.0; contents = b.0; whole = d.0; bodies = none_mapped Body (bodies_fault file) d.1 }

-- the numbers of the head
pub head_numbers : (n e z : ℕ) →
    cond (ltb 65535 n) (Some (TooLong 65535)) (cond (ltb n 2) (Some (TooShort n)) (cond (ltb 64 e) (Some (Contents contents.Entries))
    (cond (not (eqb z 0)) (Some (Contents contents.HeadZero)) (cond (ltb n (2 + 4 * e)) (Some (TooShort n)) None)))) ≡ None →
    (n ≤ 65535) × (2 ≤ n) × (e ≤ 64) × (z ≡ 0) × (2 + 4 * e ≤ n)
head_numbers n e z h = (grind (arith, nat_tests), grind (arith, nat_tests), grind (arith, nat_tests), grind (arith, nat_tests), grind (arith, nat_tests))

pub length_numbers : (n t : ℕ) → cond (ltb n t) (Some (TooShort n)) (cond (ltb t n) (Some (TooLong t)) None) ≡ None → t ≡ n
length_numbers n t h = grind (arith, nat_tests)

-- a kind that is taken is one that there is
pub taken_known : (r : Reader) (n : ℕ) → takes r n ≡ true → is_some (kind_of n) ≡ true
taken_known r n h = known_from r (kind_of n) h where
  known_from : (r : Reader) (k : _) → takes_kind r k ≡ true → is_some k ≡ true
  known_from r None h = h
  known_from r (Some k) h = refl

-- a row without a fault, and those behind it
pub row_parts : (r : Reader) (e i : ℕ) (rs : List ℕ) → rows_fault r (suc e) i rs ≡ None →
    (takes r (row_kind rs) ≡ true) × (row_zero rs ≡ 0) × (rows_fault r e (suc i) (drop 4 rs) ≡ None)
row_parts r e i rs h = split (takes r (row_kind rs)) (eqb (row_zero rs) 0) refl refl h where
  split : (t z : Bool) → takes r (row_kind rs) ≡ t → eqb (row_zero rs) 0 ≡ z →
      cond (not t) (Some (contents.Kind i)) (cond (not z) (Some (contents.RowZero i)) (rows_fault r e (suc i) (drop 4 rs))) ≡ None →
      (takes r (row_kind rs) ≡ true) × (row_zero rs ≡ 0) × (rows_fault r e (suc i) (drop 4 rs) ≡ None)
  split true true p q g = (p, eqb-true (row_zero rs) 0 q, g)
  split true false p q g = cc
  split false true p q g = cc
  split false false p q g = cc

-- rows without a fault are of kinds that there are
pub rows_known : (r : Reader) (e i : ℕ) (rs : List ℕ) → rows_fault r e i rs ≡ None → known_rows e rs ≡ true
rows_known r zero i rs h = refl
rows_known r (suc e) i rs h =
    let p = row_parts r e i rs h in
    and_from (is_some (kind_of (row_kind rs))) (known_rows e (drop 4 rs)) (taken_known r (row_kind rs) p.0) (rows_known r e (suc i) (drop 4 rs) p.2)

-- the rows of a file without a fault are of kinds that there are
pub faultless_known : (r : Reader) (file : List ℕ) → is_some (read_fault r file) ≡ false → known_rows (entries file) (rows file) ≡ true
faultless_known r file h = rows_known r (entries file) 0 (rows file) (accepted r file (none_from (read_fault r file) h)).contents
