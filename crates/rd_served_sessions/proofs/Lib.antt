pub mod ActLemmas
pub mod AnnounceLemmas
pub mod CallLemmas
pub mod ChainLemmas
pub mod CloseLemmas
pub mod ComingLemmas
pub mod CutOffLemmas
pub mod DoesLemmas
pub mod DoneLemmas
pub mod DropLemmas
pub mod EndingLemmas
pub mod FirstLemmas
pub mod FollowLemmas
pub mod FoundLemmas
pub mod LookLemmas
pub mod MoveLemmas
pub mod PartedLemmas
pub mod PlaceLemmas
pub mod PlacedLemmas
pub mod ReadyLemmas
pub mod RemovalLemmas
pub mod ScriptLemmas
pub mod SessionLemmas
pub mod StillLemmas
pub mod StoredLemmas
pub mod UnderLemmas
pub mod UnsentLemmas
pub mod UnwrittenLemmas
pub mod UseLemmas
pub use Rattle.rd_served_causes.proofs.JoinedTiedLemmas as JoinedTiedLemmas
pub use Rattle.rd_served_causes.proofs.JournalsDeclaredLemmas as JournalsDeclaredLemmas
pub use Rattle.rd_served_causes.proofs.JournalsReplyLemmas as JournalsReplyLemmas
pub use Rattle.rd_served_causes.proofs.RepliedMatchLemmas as RepliedMatchLemmas
