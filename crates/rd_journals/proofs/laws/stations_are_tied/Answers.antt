use Rattle.rd_irp.specs.declared.completion.Reply.{Reply}
use Rattle.rd_irp.specs.declared.request.Request.{Request}
use Rattle.rd_runs.proofs.Parts.{reached_behind}
use Rattle.rd_declared.specs.Declaring.{bare_lines, declared_devices}
use Rattle.rd_journals.proofs.WorkLemmas.{behind_working, station_tied}
use Rattle.rd_journals.proofs.laws.stations_are_tied.Goals as goal

abbrev AnyRequest : Request → Type 0
AnyRequest r = Unit {0}

abbrev AnyReply : Reply → Type 0
AnyReply reply = Unit {0}

pub returns : goal.returns
returns c lines starves w fit reached device s there =
    station_tied AnyRequest AnyReply (declared_devices (bare_lines lines)) w fit
    (behind_working AnyRequest AnyReply tt (λ r d planned moment came fine same runs. record { answer = λ reply e. tt; ends = λ e has. tt }) lines starves w fit (reached_behind lines starves w reached) (λ x k r read. tt)) device s there
