-- The kinds of entries, and which of them a reader takes. Assumes nothing.
use Rattle.std.specs.Prelude.{◌≡◌, ℕ, Bool, true, false, cond, Some, None, Option, Result, MatchResult, ◌==◌}
use Rattle.file.specs.declared.kind.Kind.{Kind}
use Rattle.file.specs.declared.kind.Kind.TheVariants.{Valves, Track, Job, Steps}
use Rattle.file.specs.declared.kind.UnknownKind.{UnknownKind}
use Rattle.file.specs.declared.kind.Reader.{Reader}
use Rattle.file.specs.declared.kind.Reader.TheVariants.{AllKinds, StepsAlone}

abbrev pub kind_of : ℕ → Option Kind
kind_of n = cond (n == 1) (Some Valves) (cond (n == 2) (Some Track) (cond (n == 3) (Some Job) (cond (n == 4) (Some Steps) None)))

-- the reader of a sheet takes steps bodies alone, any other reader all kinds
abbrev pub takes_kind : Reader → Option Kind → Bool
takes_kind r None = false
takes_kind AllKinds (Some k) = true
takes_kind StepsAlone (Some Valves) = false
takes_kind StepsAlone (Some Track) = false
takes_kind StepsAlone (Some Job) = false
takes_kind StepsAlone (Some Steps) = true

abbrev pub takes : Reader → ℕ → Bool
takes r n = takes_kind r (kind_of n)

-- the kinds that a job can name
abbrev pub is_plant : Option Kind → Bool
is_plant None = false
is_plant (Some Valves) = true
is_plant (Some Track) = true
is_plant (Some Job) = false
is_plant (Some Steps) = false

-- a byte read as a kind: the kind that it is the number of, or the byte itself where there is none
abbrev pub KindRead : ℕ → Result Kind UnknownKind → Type 0
KindRead n r = MatchResult r (λ k. kind_of n ≡ Some k) (λ e. (kind_of n ≡ None) × (e.0 ≡ n))
