pub mod AskedLemmas
pub mod CallLemmas
pub mod CauseLemmas
pub mod ChannelLemmas
pub mod ComesLemmas
pub mod DeedLemmas
pub mod DeviceLemmas
pub mod HeldLemmas
pub mod KeyLemmas
pub mod LiftLemmas
pub mod MeetLemmas
pub mod OrderLemmas
pub mod OwnsLemmas
pub mod StandingLemmas
pub mod StationLemmas
pub mod StoreLemmas
pub mod WalkLemmas
pub mod WorkLemmas
pub use Rattle.rd_journals.proofs.AskingLemmas as JournalsAskingLemmas
pub use Rattle.rd_journals.proofs.CameLemmas as JournalsCameLemmas
pub use Rattle.rd_journals.proofs.CompletionLemmas as JournalsCompletionLemmas
pub use Rattle.rd_journals.proofs.DeclaredLemmas as JournalsDeclaredLemmas
pub use Rattle.rd_journals.proofs.HeldLemmas as JournalsHeldLemmas
pub use Rattle.rd_journals.proofs.ReplyLemmas as JournalsReplyLemmas
pub use Rattle.rd_journals.proofs.ShortLemmas as JournalsShortLemmas
pub use Rattle.rd_journals.proofs.WorkLemmas as JournalsWorkLemmas
pub use Rattle.rd_journals.proofs.WritingLemmas as JournalsWritingLemmas
pub use Rattle.rd_journals.proofs.RunsBoundLemmas as RunsBoundLemmas
pub use Rattle.rd_journals.proofs.RunsInsides as RunsInsides
pub use Rattle.rd_journals.proofs.RunsSizeLemmas as RunsSizeLemmas
