pub mod CalmLemmas
pub mod HandLemmas
pub mod OverLemmas
pub mod RestLemmas
pub mod ParkedLemmas
pub mod FullLemmas
pub mod TurnsLemmas
pub mod CompletedLemmas
pub mod WaitingLemmas
pub mod LeftLemmas
pub mod DroppedLemmas
pub mod LastLemmas
pub mod EndLemmas
pub mod StillLemmas
pub mod RunLemmas
pub use Rattle.rd_answered.proofs.ListedLemmas as AnsweredListedLemmas
pub use Rattle.rd_answered.proofs.ReadyLemmas as AnsweredReadyLemmas
pub use Rattle.rd_answered.proofs.SayingLemmas as AnsweredSayingLemmas
pub use Rattle.rd_answered.proofs.SessionLemmas as AnsweredSessionLemmas
pub use Rattle.rd_answered.proofs.WritableLemmas as AnsweredWritableLemmas
pub use Rattle.rd_controls.proofs.Leading as ControlsLeading
pub use Rattle.rd_controls.proofs.Numbers as ControlsNumbers
pub use Rattle.rd_controls.proofs.ReadyLemmas as ControlsReadyLemmas
pub use Rattle.rd_controls.proofs.ScriptLemmas as ControlsScriptLemmas
pub use Rattle.rd_controls.proofs.Unseen as ControlsUnseen
pub use Rattle.rd_controls.proofs.Walking as ControlsWalking
pub use Rattle.rd_answered.proofs.JoinedBookLemmas as JoinedBookLemmas
pub use Rattle.rd_answered.proofs.JoinedRoomLemmas as JoinedRoomLemmas
pub use Rattle.rd_answered.proofs.JoinedScriptLemmas as JoinedScriptLemmas
pub use Rattle.rd_answered.proofs.JoinedTiedLemmas as JoinedTiedLemmas
pub use Rattle.rd_answered.proofs.JournalsAnswerLemmas as JournalsAnswerLemmas
pub use Rattle.rd_answered.proofs.JournalsAskingLemmas as JournalsAskingLemmas
pub use Rattle.rd_answered.proofs.JournalsCameLemmas as JournalsCameLemmas
pub use Rattle.rd_answered.proofs.JournalsChannelLemmas as JournalsChannelLemmas
pub use Rattle.rd_answered.proofs.JournalsDeclaredLemmas as JournalsDeclaredLemmas
pub use Rattle.rd_answered.proofs.JournalsHeldLemmas as JournalsHeldLemmas
pub use Rattle.rd_answered.proofs.JournalsRunLemmas as JournalsRunLemmas
pub use Rattle.rd_answered.proofs.JournalsServingLemmas as JournalsServingLemmas
pub use Rattle.rd_answered.proofs.RefusedAnswerLemmas as RefusedAnswerLemmas
pub use Rattle.rd_answered.proofs.RefusedMarkLemmas as RefusedMarkLemmas
pub use Rattle.rd_answered.proofs.RefusedSaidLemmas as RefusedSaidLemmas
pub use Rattle.rd_answered.proofs.RepliedMatchLemmas as RepliedMatchLemmas
pub use Rattle.rd_answered.proofs.RunsAskedLemmas as RunsAskedLemmas
pub use Rattle.rd_answered.proofs.RunsBeginningLemmas as RunsBeginningLemmas
pub use Rattle.rd_answered.proofs.RunsHostLemmas as RunsHostLemmas
pub use Rattle.rd_answered.proofs.RunsInsides as RunsInsides
pub use Rattle.rd_answered.proofs.RunsKeysOn as RunsKeysOn
pub use Rattle.rd_answered.proofs.RunsParts as RunsParts
pub use Rattle.rd_answered.proofs.RunsReaching as RunsReaching
pub use Rattle.rd_answered.proofs.RunsResting as RunsResting
pub use Rattle.rd_answered.proofs.RunsStanding as RunsStanding
pub use Rattle.rd_answered.proofs.RunsTogether as RunsTogether
pub use Rattle.rd_answered.proofs.RunsTrafficLemmas as RunsTrafficLemmas
pub use Rattle.rd_told.proofs.OpenLemmas as ToldOpenLemmas
pub use Rattle.rd_told.proofs.PlainLemmas as ToldPlainLemmas
pub use Rattle.rd_told.proofs.PrintedLemmas as ToldPrintedLemmas
