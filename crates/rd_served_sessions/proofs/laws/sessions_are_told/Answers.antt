use Rattle.rd_sharing.proofs.ClosingLemmas.{none_troubled}
use Rattle.rd_sharing.specs.Closing.{station_devices}
use Rattle.rd_declared.specs.Declaring.{bare_lines}
use Rattle.rd_workers.specs.Channels.{channels_of}
use Rattle.rd_served_sessions.proofs.FirstLemmas.{served_fit}
use Rattle.rd_served_sessions.proofs.SessionLemmas.{session_told}
use Rattle.rd_served_sessions.proofs.laws.sessions_are_told.Goals as goal

pub returns : goal.returns
returns c calm lines devices by books old new before after servable not are quiet serves =
    session_told calm devices (served_fit (bare_lines lines) before.opened after.opened devices are) lines servable.placed (channels_of lines) by books old new not serves.journals
    (λ said. none_troubled (station_devices (serves.journals).stations) before after (quiet said) serves.trouble)
