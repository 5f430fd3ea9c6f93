use Rattle.std.specs.Prelude.{ℕ, List}
use Rattle.rd_drive.specs.Ranged.{IsReplyInRange}
use Rattle.rd_journals.proofs.CameLemmas.{fines}
use Rattle.rd_journals.proofs.CompletionLemmas.{lost_ranged, runs_good}
use Rattle.rd_journals.proofs.DeclaredLemmas.{bounded_fit}
use Rattle.rd_journals.proofs.RunLemmas.{behind_orderly}
use Rattle.rd_journals.proofs.WorkLemmas.{behind_working}
use Rattle.rd_journals.specs.Jobs.{FitsCompletion}
use Rattle.rd_declared.specs.Declaring.{bare_lines, declared_devices}
use Rattle.rd_directs.proofs.AloneLemmas.{none_held}
use Rattle.rd_directs.proofs.laws.alone_requests_meet_none.Goals as goal

pub returns : goal.returns
returns c lines starves w channel m premises behind opened alone r spelled =
    let fit = bounded_fit lines premises.bounded in
    none_held FitsCompletion IsReplyInRange (declared_devices (bare_lines lines)) w channel (behind_orderly lines starves w fit behind).0 opened
    (behind_working FitsCompletion IsReplyInRange lost_ranged runs_good lines starves w fit behind (fines lines starves premises w behind)) m alone r spelled
