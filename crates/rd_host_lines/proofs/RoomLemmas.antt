-- Each request that was accepted by the table of a host that played lines has numbers that its message has room for.
use Rattle.std.proofs.Common.{ℕ, List, Option}
use Rattle.std.specs.List.{AllByRecursion}
use Rattle.rd_carry.specs.declared.ended.Ended.{Ended}
use Rattle.rd_host_session.specs.Channels.{LinkedTold}
use Rattle.rd_host_session.specs.Hosted.{Hosts}
use Rattle.rd_issuer.specs.declared.issuer.Issuer.{Issuer}
use Rattle.rd_pending.specs.Table.{new_table}
use Rattle.rd_runs.specs.Premises.{AreSubmittable}
use Rattle.rd_script.specs.declared.line.NumberedLine.{NumberedLine}
use Rattle.rd_script.specs.declared.outcome.Outcome.{Outcome}
use Rattle.rd_host_lines.specs.Requests.{AcceptsInRange, AreInRange}
use Rattle.rd_host_lines.proofs.FileLemmas.{HandsFileEntry, IsSafeEntry, files_fit}
use Rattle.rd_host_lines.proofs.LineLemmas.{issuers_fit}
use Rattle.rd_host_lines.proofs.RunLemmas.{IssuersFit, keeps_fit, keeps_safe}
use Rattle.rd_host_lines.proofs.SessionLemmas.{session_such}

pub have_room : (lines : List NumberedLine) (other : Option Ended) (told : List ((ℕ × ℕ) × Outcome)) (old new : LinkedTold) → AreSubmittable lines
    → (hosts : Hosts lines other told old new) → AreInRange (hosts.last).seen
have_room lines other told old new fitting hosts =
    let all = (hosts.last).seen in
    let safe : AllByRecursion IsSafeEntry all =
    session_such IsSafeEntry (λ (issuers : List Issuer). Unit {0}) hosts.turn lines other hosts.issuers hosts.last old new hosts.plays (keeps_safe all) tt in
    let files : AllByRecursion HandsFileEntry all = files_fit all new_table hosts.table hosts.leads safe tt in
    session_such AcceptsInRange (IssuersFit all hosts.table hosts.leads files) hosts.turn lines other hosts.issuers hosts.last old new hosts.plays (keeps_fit all hosts.table hosts.leads files)
    (issuers_fit all lines fitting)
