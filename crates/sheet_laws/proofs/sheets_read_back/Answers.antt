-- The law.
use Rattle.sheet_laws.proofs.RunByRun.{put_and_read}
use Rattle.sheet_laws.proofs.sheets_read_back.Goals as goal

pub returns : goal.returns
returns c = put_and_read
