-- The layer, the number and the byte of each fault. Assumes nothing.
use Rattle.std.specs.Prelude.{ℕ, ◌+◌, ◌*◌}
use Rattle.bodies.specs.JobRule.{job_byte}
use Rattle.bodies.specs.StepsRule.{steps_byte}
use Rattle.plant_bodies.specs.BenchRule.{valves_byte}
use Rattle.plant_bodies.specs.TrackRule.{track_byte}
use Rattle.faults.specs.declared.fault.ContentsFault.{ContentsFault}
use Rattle.faults.specs.declared.fault.ContentsFault.TheVariants as contents
use Rattle.faults.specs.declared.fault.BodyFault.{BodyFault}
use Rattle.faults.specs.declared.fault.BodyFault.TheVariants as body
use Rattle.faults.specs.declared.fault.FileFault.{FileFault}
use Rattle.faults.specs.declared.fault.FileFault.TheVariants.{TooShort, TooLong, Contents, Body, ShortSheet}
use Rattle.faults.specs.declared.fault.Layer.{Layer}
use Rattle.faults.specs.declared.fault.Layer.TheVariants as layer

abbrev pub layer_code : Layer → ℕ
layer_code layer.File = 1
layer_code layer.Contents = 2
layer_code layer.Body = 3
layer_code layer.Sheet = 4

-- rows of four bytes begin at byte 2: kind, 0, length
abbrev pub contents_byte : ContentsFault → ℕ
contents_byte contents.Entries = 0
contents_byte contents.HeadZero = 1
contents_byte (contents.Kind i) = 2 + 4 * i
contents_byte (contents.RowZero i) = 3 + 4 * i
contents_byte (contents.NoBook i) = 2 + 4 * i

abbrev pub contents_number : ContentsFault → ℕ
contents_number contents.Entries = 11
contents_number contents.HeadZero = 11
contents_number (contents.Kind i) = 11
contents_number (contents.RowZero i) = 11
contents_number (contents.NoBook i) = 14

abbrev pub body_byte : BodyFault → ℕ
body_byte (body.Valves p f) = p + valves_byte f
body_byte (body.Track p f) = p + track_byte f
body_byte (body.Job p f) = p + job_byte f
body_byte (body.Steps p f) = p + steps_byte f

abbrev pub layer_of : FileFault → Layer
layer_of (TooShort n) = layer.File
layer_of (TooLong n) = layer.File
layer_of (Contents f) = layer.Contents
layer_of (Body f) = layer.Body
layer_of (ShortSheet n) = layer.Sheet

abbrev pub number_of : FileFault → ℕ
number_of (TooShort n) = 10
number_of (TooLong n) = 10
number_of (Contents f) = contents_number f
number_of (Body f) = 12
number_of (ShortSheet n) = 13

abbrev pub byte_of : FileFault → ℕ
byte_of (TooShort n) = n
byte_of (TooLong n) = n
byte_of (Contents f) = contents_byte f
byte_of (Body f) = body_byte f
byte_of (ShortSheet n) = n
