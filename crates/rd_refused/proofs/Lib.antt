pub mod AnswerLemmas
pub mod SaidLemmas
pub mod MarkLemmas
pub use Rattle.rd_replied.proofs.JournalsAnswerLemmas as JournalsAnswerLemmas
pub use Rattle.rd_replied.proofs.JournalsAskingLemmas as JournalsAskingLemmas
pub use Rattle.rd_replied.proofs.JournalsCallLemmas as JournalsCallLemmas
pub use Rattle.rd_replied.proofs.JournalsCameLemmas as JournalsCameLemmas
pub use Rattle.rd_replied.proofs.JournalsChannelLemmas as JournalsChannelLemmas
pub use Rattle.rd_replied.proofs.JournalsClientLemmas as JournalsClientLemmas
pub use Rattle.rd_replied.proofs.JournalsCompletionLemmas as JournalsCompletionLemmas
pub use Rattle.rd_replied.proofs.JournalsDeclaredLemmas as JournalsDeclaredLemmas
pub use Rattle.rd_replied.proofs.JournalsDeviceLemmas as JournalsDeviceLemmas
pub use Rattle.rd_replied.proofs.JournalsHeldLemmas as JournalsHeldLemmas
pub use Rattle.rd_replied.proofs.JournalsHostLemmas as JournalsHostLemmas
pub use Rattle.rd_replied.proofs.JournalsOrderlyLemmas as JournalsOrderlyLemmas
pub use Rattle.rd_replied.proofs.JournalsOwnLemmas as JournalsOwnLemmas
pub use Rattle.rd_replied.proofs.JournalsReplyLemmas as JournalsReplyLemmas
pub use Rattle.rd_replied.proofs.JournalsRunLemmas as JournalsRunLemmas
pub use Rattle.rd_replied.proofs.JournalsServingLemmas as JournalsServingLemmas
pub use Rattle.rd_replied.proofs.JournalsShortLemmas as JournalsShortLemmas
pub use Rattle.rd_replied.proofs.JournalsStandingLemmas as JournalsStandingLemmas
pub use Rattle.rd_replied.proofs.JournalsWorkLemmas as JournalsWorkLemmas
pub use Rattle.rd_replied.proofs.JournalsWritingLemmas as JournalsWritingLemmas
pub use Rattle.rd_replied.proofs.GoneLemmas as RepliedGoneLemmas
pub use Rattle.rd_replied.proofs.MatchLemmas as RepliedMatchLemmas
pub use Rattle.rd_replied.proofs.SinceLemmas as RepliedSinceLemmas
pub use Rattle.rd_replied.proofs.RunsAskedLemmas as RunsAskedLemmas
pub use Rattle.rd_replied.proofs.RunsBeginningLemmas as RunsBeginningLemmas
pub use Rattle.rd_replied.proofs.RunsHostLemmas as RunsHostLemmas
pub use Rattle.rd_replied.proofs.RunsIdleLemmas as RunsIdleLemmas
pub use Rattle.rd_replied.proofs.RunsInsides as RunsInsides
pub use Rattle.rd_replied.proofs.RunsKeysOn as RunsKeysOn
pub use Rattle.rd_replied.proofs.RunsParts as RunsParts
pub use Rattle.rd_replied.proofs.RunsReaching as RunsReaching
pub use Rattle.rd_replied.proofs.RunsResting as RunsResting
pub use Rattle.rd_replied.proofs.RunsStanding as RunsStanding
pub use Rattle.rd_replied.proofs.RunsTogether as RunsTogether
pub use Rattle.rd_replied.proofs.RunsTrafficLemmas as RunsTrafficLemmas
