use Rattle.rd_drive.specs.Ranged.{IsReplyInRange}
use Rattle.rd_runs.proofs.Parts.{reached_behind}
use Rattle.rd_runs.proofs.Together.{known}
use Rattle.rd_deeds.proofs.Joined.{carried_now}
use Rattle.rd_declared.specs.Declaring.{bare_lines, declared_devices}
use Rattle.rd_world.specs.Recording.{client_id}
use Rattle.rd_journals.specs.Jobs.{FitsCompletion}
use Rattle.rd_journals.proofs.CompletionLemmas.{lost_ranged, ready_completes, runs_good}
use Rattle.rd_journals.proofs.RoomLemmas.{read_roomy}
use Rattle.rd_journals.proofs.RunLemmas.{reached_orderly}
use Rattle.rd_journals.proofs.WorkLemmas.{behind_working}
use Rattle.rd_journals.proofs.laws.completions_are_of_requests.Goals as goal

pub returns-clause-room : goal.returns-clause-room
returns-clause-room c lines starves w premises reached =
    let k = known lines starves premises w reached in
    read_roomy client_id w.deeds k.stands.host.may (carried_now w.deeds k.carries.each)

pub returns-clause-completes : goal.returns-clause-completes
returns-clause-completes c lines starves w fit premises reached device s there x has =
    ready_completes (declared_devices (bare_lines lines)) w (reached_orderly lines starves w fit reached)
    (behind_working FitsCompletion IsReplyInRange lost_ranged runs_good lines starves w fit (reached_behind lines starves w reached) (returns-clause-room c lines starves w premises reached)) device s there x has
