-- What stands in the store: records at the front of the slice, counted layer by layer. Assumes nothing.
use Rattle.std.specs.Prelude.{◌≡◌, ℕ, ◌+◌, ◌≤◌, Bool, true, false, List, [], ◌∷◌, ◌++◌, length, take, drop}
use Rattle.search.specs.declared.sizes.Sizes.{Sizes}
use Rattle.search.specs.declared.search.Search.{Search}

-- the slice, and how many records each layer has
pub record Store (R : Type 0) : Type 0 where
  pub room : List R
  pub before : ℕ
  pub present : ℕ
  pub next : ℕ

abbrev pub stored : {R : Type 0} → List R → Sizes → Store R
stored room n = record { room = room; before = n.before; present = n.present; next = n.next }

-- the store of a search
abbrev pub store_of : {P R L : Type 0} {p : _} {r : _} {l : _} → Search P R L p r l → Store R
store_of s = stored s.room.now s.sizes

-- how many records stand, and which
abbrev pub count : {R : Type 0} → Store R → ℕ
count s = s.before + s.present + s.next

abbrev pub standing : {R : Type 0} → Store R → List R
standing s = take (count s) s.room

-- the present layer as it stands in the slice
abbrev pub present_records : {R : Type 0} → Store R → List R
present_records s = take s.present (drop s.before s.room)

-- as long as another, with as many records in the layers before and present, at least as many records in all, and
-- nothing changed behind them
pub record Kept {R : Type 0} (s s' : Store R) : Type 0 where
  pub long : length s'.room ≡ length s.room
  pub befores : s'.before ≡ s.before
  pub presents : s'.present ≡ s.present
  pub more : count s ≤ count s'
  pub behind : drop (count s') s'.room ≡ drop (count s') s.room

-- a record has entered behind the others; or the slice is full, and nothing is changed
abbrev pub Pushed : {R : Type 0} → Store R → Store R → R → Bool → Type 0
Pushed s s' r true =
    Kept s s' × (s'.next ≡ s.next + 1) × (standing s' ≡ standing s ++ (r ∷ []))
Pushed s s' r false =
    Kept s s' × (s'.next ≡ s.next) × (standing s' ≡ standing s) × (length s.room ≡ count s)

-- the layer before is given up, and the two others stand one place nearer to the front
pub record Advanced {R : Type 0} (s s' : Store R) : Type 0 where
  pub long : length s'.room ≡ length s.room
  pub befores : s'.before ≡ s.present
  pub presents : s'.present ≡ s.next
  pub nexts : s'.next ≡ 0
  pub left : standing s' ≡ drop s.before (standing s)
  pub behind : drop (count s) s'.room ≡ drop (count s) s.room
