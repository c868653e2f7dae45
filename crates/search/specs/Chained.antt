-- Chains of places in lent memory: a link for each place in front, and behind them a head for each bucket. Assumes nothing.
use Rattle.std.specs.Prelude.{◌≡◌, ℕ, zero, suc, ◌+◌, ◌*◌, ◌/◌, ◌%◌, ◌<◌, ◌≤◌, List, length, slice_index}
use Rattle.search.specs.declared.chains.Chains.{Chains}

-- the bucket of a setting, where there are so many
unfoldable pub bucket_of : ℕ → ℕ → ℕ
bucket_of heads u = (u * 2654435769 % 4294967296) * heads / 4294967296

-- what the head of a setting's bucket holds
abbrev pub head_of : List ℕ → ℕ → ℕ → ℕ → ℕ
head_of memory links heads u = slice_index memory (links + bucket_of heads u)

-- from place p on, k links lead down to place i, by places of bucket b that are each below the one before
abbrev pub Down : List ℕ → ℕ → List ℕ → ℕ → ℕ → ℕ → ℕ → ℕ → Type 0
Down memory heads ss b zero above p i = (p < above) × (p ≡ i)
Down memory heads ss b (suc k) above p i = (p < above) × (bucket_of heads (slice_index ss p) ≡ b) × Down memory heads ss b k p (slice_index memory p) i

-- every place has a link and can be found from the head of its bucket
pub record Chained (memory : List ℕ) (links heads : ℕ) (ss : List ℕ) : Type 0 where
  pub linked : length ss ≤ links
  pub long : links + heads ≤ length memory
  pub found : (i : ℕ) → i < length ss → (k : ℕ) × Down memory heads ss (bucket_of heads (slice_index ss i)) k (length ss) (head_of memory links heads (slice_index ss i)) i

-- where there are no heads there is nothing to follow
abbrev pub Follows : Chains → List ℕ → Type 0
Follows c ss = 0 < c.heads → Chained c.memory.now c.links c.heads ss
