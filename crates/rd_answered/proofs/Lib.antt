pub mod GrowingLemmas
pub mod InOrderLemmas
pub mod MeetLemmas
pub mod SessionLemmas
pub mod ReadyLemmas
pub mod ListedLemmas
pub mod SayingLemmas
pub mod LiveLemmas
pub mod RefusingLemmas
pub mod PartLemmas
pub mod FirstLemmas
pub mod WritableLemmas
pub use Rattle.rd_directs.proofs.AloneLemmas as DirectsAloneLemmas
pub use Rattle.rd_directs.proofs.DirectLemmas as DirectsDirectLemmas
pub use Rattle.rd_joined.proofs.BookLemmas as JoinedBookLemmas
pub use Rattle.rd_joined.proofs.JournalLemmas as JoinedJournalLemmas
pub use Rattle.rd_joined.proofs.RoomLemmas as JoinedRoomLemmas
pub use Rattle.rd_joined.proofs.ScriptLemmas as JoinedScriptLemmas
pub use Rattle.rd_joined.proofs.TiedLemmas as JoinedTiedLemmas
pub use Rattle.rd_refused.proofs.JournalsAnswerLemmas as JournalsAnswerLemmas
pub use Rattle.rd_refused.proofs.JournalsAskingLemmas as JournalsAskingLemmas
pub use Rattle.rd_refused.proofs.JournalsCameLemmas as JournalsCameLemmas
pub use Rattle.rd_refused.proofs.JournalsChannelLemmas as JournalsChannelLemmas
pub use Rattle.rd_refused.proofs.JournalsClientLemmas as JournalsClientLemmas
pub use Rattle.rd_refused.proofs.JournalsCompletionLemmas as JournalsCompletionLemmas
pub use Rattle.rd_refused.proofs.JournalsDeclaredLemmas as JournalsDeclaredLemmas
pub use Rattle.rd_refused.proofs.JournalsDeviceLemmas as JournalsDeviceLemmas
pub use Rattle.rd_refused.proofs.JournalsHeldLemmas as JournalsHeldLemmas
pub use Rattle.rd_refused.proofs.JournalsReplyLemmas as JournalsReplyLemmas
pub use Rattle.rd_refused.proofs.JournalsRunLemmas as JournalsRunLemmas
pub use Rattle.rd_refused.proofs.JournalsServingLemmas as JournalsServingLemmas
pub use Rattle.rd_refused.proofs.JournalsStandingLemmas as JournalsStandingLemmas
pub use Rattle.rd_refused.proofs.JournalsWorkLemmas as JournalsWorkLemmas
pub use Rattle.rd_refused.proofs.AnswerLemmas as RefusedAnswerLemmas
pub use Rattle.rd_refused.proofs.MarkLemmas as RefusedMarkLemmas
pub use Rattle.rd_refused.proofs.SaidLemmas as RefusedSaidLemmas
pub use Rattle.rd_refused.proofs.RepliedMatchLemmas as RepliedMatchLemmas
pub use Rattle.rd_refused.proofs.RunsAskedLemmas as RunsAskedLemmas
pub use Rattle.rd_refused.proofs.RunsBeginningLemmas as RunsBeginningLemmas
pub use Rattle.rd_refused.proofs.RunsHostLemmas as RunsHostLemmas
pub use Rattle.rd_refused.proofs.RunsIdleLemmas as RunsIdleLemmas
pub use Rattle.rd_refused.proofs.RunsInsides as RunsInsides
pub use Rattle.rd_refused.proofs.RunsKeysOn as RunsKeysOn
pub use Rattle.rd_refused.proofs.RunsParts as RunsParts
pub use Rattle.rd_refused.proofs.RunsReaching as RunsReaching
pub use Rattle.rd_refused.proofs.RunsResting as RunsResting
pub use Rattle.rd_refused.proofs.RunsStanding as RunsStanding
pub use Rattle.rd_refused.proofs.RunsTogether as RunsTogether
pub use Rattle.rd_refused.proofs.RunsTrafficLemmas as RunsTrafficLemmas
