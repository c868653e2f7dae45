-- The body that is found is the entry with that number.
use Rattle.std.proofs.Common.{◌≡◌, ◌∙◌}
use Rattle.std.specs.List.{slice_get}
use Rattle.file.specs.Read.{parts}
use Rattle.file.specs.Held.{entries_bytes}
use Rattle.file.specs.Files.{seen}
use Rattle.file.proofs.Finding.{entry_found, entry_stands}
use Rattle.file.proofs.entries.Entries.get.Goals as goal

pub returns : goal.returns
returns c =
    let found : seen c.entry_of.result ≡ slice_get (parts (entries_bytes c.args.self.now)) c.args.number =
    c.entry_of.ensures ∙ entry_found c.args.self.now c.args.number c.in_ok-body.body c.in_ok-body.ensures in
    record { which = found; part = entry_stands (entries_bytes c.args.self.now) c.args.number _ found }
