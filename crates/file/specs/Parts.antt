-- The entries of a file as parts of it, and the first fault of their bodies. Assumes nothing.
use Rattle.std.specs.Prelude.{ℕ, zero, suc, ◌+◌, ◌*◌, Bool, ◌&&◌, List, [], ◌∷◌, take, drop, Some, None, Option, nat_lt, slice_index}
use Rattle.std.specs.Option.{option_map}
use Rattle.bodies.specs.JobRule.{job_fault}
use Rattle.bodies.specs.StepsRule.{steps_fault}
use Rattle.plant_bodies.specs.BenchRule.{valves_fault}
use Rattle.plant_bodies.specs.TrackRule.{track_fault}
use Rattle.faults.specs.declared.fault.BodyFault.{BodyFault}
use Rattle.faults.specs.declared.fault.BodyFault.TheVariants as body
use Rattle.file.specs.declared.kind.Kind.{Kind}
use Rattle.file.specs.declared.kind.Kind.TheVariants.{Valves, Track, Job, Steps}
use Rattle.file.specs.Kinds.{kind_of, is_plant}
use Rattle.file.specs.Contents.{row_kind, row_length}

-- an entry: its kind byte, the byte of the file at which its body begins, and the body
pub record Part : Type 0 where
  pub kind : ℕ
  pub place : ℕ
  pub bytes : List ℕ

abbrev pub part : ℕ → ℕ → List ℕ → Part
part k p bs = record { kind = k; place = p; bytes = bs }

-- e entries, by their rows, with the first body at this place and the bytes from there on
abbrev pub parts_from : ℕ → List ℕ → ℕ → List ℕ → List Part
parts_from zero rs p bs = []
parts_from (suc e) rs p bs =
    part (row_kind rs) p (take (row_length rs) bs) ∷ parts_from e (drop 4 rs) (p + row_length rs) (drop (row_length rs) bs)

-- entry k is before entry i and is a bench or a track, by the rows of all entries
abbrev pub plant_before : List ℕ → ℕ → ℕ → Bool
plant_before rs i k = nat_lt k i && is_plant (kind_of (row_kind (drop (4 * k) rs)))

-- the first fault of entry i, where these are the rows of all entries
abbrev pub kind_fault : List ℕ → ℕ → Option Kind → ℕ → List ℕ → Option BodyFault
kind_fault rs i None p bs = None
kind_fault rs i (Some Valves) p bs = option_map (body.Valves p) (valves_fault bs)
kind_fault rs i (Some Track) p bs = option_map (body.Track p) (track_fault bs)
kind_fault rs i (Some Job) p bs = option_map (body.Job p) (job_fault (plant_before rs i (slice_index bs 0)) bs)
kind_fault rs i (Some Steps) p bs = option_map (body.Steps p) (steps_fault bs)

abbrev pub part_fault : List ℕ → ℕ → Part → Option BodyFault
part_fault rs i e = kind_fault rs i (kind_of e.kind) e.place e.bytes

abbrev pub first_fault : Option BodyFault → Option BodyFault → Option BodyFault
first_fault None g = g
first_fault (Some f) g = Some f

-- the first fault of these entries, of which the first is entry i
abbrev pub parts_fault : List ℕ → ℕ → List Part → Option BodyFault
parts_fault rs i [] = None
parts_fault rs i (e ∷ es) = first_fault (part_fault rs i e) (parts_fault rs (suc i) es)
