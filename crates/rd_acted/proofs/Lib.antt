pub mod ActLemmas
pub mod SayingLemmas
pub mod QuietLemmas
pub mod DataLemmas
pub mod PassingLemmas
pub mod ListLemmas
pub mod NoticeLemmas
pub mod ReadLemmas
pub mod OrderLemmas
pub mod TellLemmas
pub mod InTimeLemmas
pub mod DueLemmas
pub mod CuttingLemmas
pub mod ThereLemmas
pub mod CutThereLemmas
pub mod EveryCutLemmas
pub mod CauseLemmas
pub mod PrinterLemmas
pub mod ReachedLemmas
pub mod EndedLemmas
pub mod RunLemmas
pub use Rattle.rd_rest.proofs.AnsweredListedLemmas as AnsweredListedLemmas
pub use Rattle.rd_rest.proofs.AnsweredReadyLemmas as AnsweredReadyLemmas
pub use Rattle.rd_rest.proofs.AnsweredSayingLemmas as AnsweredSayingLemmas
pub use Rattle.rd_rest.proofs.AnsweredSessionLemmas as AnsweredSessionLemmas
pub use Rattle.rd_rest.proofs.AnsweredWritableLemmas as AnsweredWritableLemmas
pub use Rattle.rd_rest.proofs.ControlsLeading as ControlsLeading
pub use Rattle.rd_rest.proofs.ControlsNumbers as ControlsNumbers
pub use Rattle.rd_rest.proofs.ControlsReadyLemmas as ControlsReadyLemmas
pub use Rattle.rd_rest.proofs.ControlsUnseen as ControlsUnseen
pub use Rattle.rd_rest.proofs.ControlsWalking as ControlsWalking
pub use Rattle.rd_rest.proofs.JoinedBookLemmas as JoinedBookLemmas
pub use Rattle.rd_rest.proofs.JoinedScriptLemmas as JoinedScriptLemmas
pub use Rattle.rd_rest.proofs.JoinedTiedLemmas as JoinedTiedLemmas
pub use Rattle.rd_rest.proofs.JournalsAnswerLemmas as JournalsAnswerLemmas
pub use Rattle.rd_rest.proofs.JournalsAskingLemmas as JournalsAskingLemmas
pub use Rattle.rd_rest.proofs.JournalsCameLemmas as JournalsCameLemmas
pub use Rattle.rd_rest.proofs.JournalsChannelLemmas as JournalsChannelLemmas
pub use Rattle.rd_rest.proofs.JournalsDeclaredLemmas as JournalsDeclaredLemmas
pub use Rattle.rd_rest.proofs.JournalsHeldLemmas as JournalsHeldLemmas
pub use Rattle.rd_rest.proofs.JournalsRunLemmas as JournalsRunLemmas
pub use Rattle.rd_rest.proofs.JournalsServingLemmas as JournalsServingLemmas
pub use Rattle.rd_rest.proofs.RefusedAnswerLemmas as RefusedAnswerLemmas
pub use Rattle.rd_rest.proofs.RefusedMarkLemmas as RefusedMarkLemmas
pub use Rattle.rd_rest.proofs.RefusedSaidLemmas as RefusedSaidLemmas
pub use Rattle.rd_rest.proofs.RepliedMatchLemmas as RepliedMatchLemmas
pub use Rattle.rd_rest.proofs.CompletedLemmas as RestCompletedLemmas
pub use Rattle.rd_rest.proofs.FullLemmas as RestFullLemmas
pub use Rattle.rd_rest.proofs.LeftLemmas as RestLeftLemmas
pub use Rattle.rd_rest.proofs.RunLemmas as RestRunLemmas
pub use Rattle.rd_rest.proofs.TurnsLemmas as RestTurnsLemmas
pub use Rattle.rd_rest.proofs.RunsBeginningLemmas as RunsBeginningLemmas
pub use Rattle.rd_rest.proofs.RunsHostLemmas as RunsHostLemmas
pub use Rattle.rd_rest.proofs.RunsInsides as RunsInsides
pub use Rattle.rd_rest.proofs.RunsKeysOn as RunsKeysOn
pub use Rattle.rd_rest.proofs.RunsParts as RunsParts
pub use Rattle.rd_rest.proofs.RunsReaching as RunsReaching
pub use Rattle.rd_rest.proofs.RunsResting as RunsResting
pub use Rattle.rd_rest.proofs.RunsStanding as RunsStanding
pub use Rattle.rd_rest.proofs.RunsTogether as RunsTogether
pub use Rattle.rd_rest.proofs.RunsTrafficLemmas as RunsTrafficLemmas
pub use Rattle.rd_rest.proofs.ToldOpenLemmas as ToldOpenLemmas
pub use Rattle.rd_rest.proofs.ToldPlainLemmas as ToldPlainLemmas
pub use Rattle.rd_rest.proofs.ToldPrintedLemmas as ToldPrintedLemmas
