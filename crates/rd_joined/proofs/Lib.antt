pub mod CutLemmas
pub mod ReadLemmas
pub mod RoomLemmas
pub mod ScriptLemmas
pub mod TiedLemmas
pub mod JournalLemmas
pub mod BookLemmas
pub mod ClockLemmas
pub use Rattle.rd_journals.proofs.AskingLemmas as JournalsAskingLemmas
pub use Rattle.rd_journals.proofs.CameLemmas as JournalsCameLemmas
pub use Rattle.rd_journals.proofs.ChannelLemmas as JournalsChannelLemmas
pub use Rattle.rd_journals.proofs.ClientLemmas as JournalsClientLemmas
pub use Rattle.rd_journals.proofs.CompletionLemmas as JournalsCompletionLemmas
pub use Rattle.rd_journals.proofs.DeclaredLemmas as JournalsDeclaredLemmas
pub use Rattle.rd_journals.proofs.DeviceLemmas as JournalsDeviceLemmas
pub use Rattle.rd_journals.proofs.HeldLemmas as JournalsHeldLemmas
pub use Rattle.rd_journals.proofs.RunLemmas as JournalsRunLemmas
pub use Rattle.rd_journals.proofs.ServingLemmas as JournalsServingLemmas
pub use Rattle.rd_journals.proofs.ShortLemmas as JournalsShortLemmas
pub use Rattle.rd_journals.proofs.WorkLemmas as JournalsWorkLemmas
pub use Rattle.rd_journals.proofs.WritingLemmas as JournalsWritingLemmas
pub use Rattle.rd_journals.proofs.RunsBeginningLemmas as RunsBeginningLemmas
pub use Rattle.rd_journals.proofs.RunsBelowLemmas as RunsBelowLemmas
pub use Rattle.rd_journals.proofs.RunsIdleLemmas as RunsIdleLemmas
pub use Rattle.rd_journals.proofs.RunsInsides as RunsInsides
pub use Rattle.rd_journals.proofs.RunsKeysOn as RunsKeysOn
pub use Rattle.rd_journals.proofs.RunsKeysOnLemmas as RunsKeysOnLemmas
pub use Rattle.rd_journals.proofs.RunsParts as RunsParts
pub use Rattle.rd_journals.proofs.RunsReaching as RunsReaching
pub use Rattle.rd_journals.proofs.RunsStanding as RunsStanding
pub use Rattle.rd_journals.proofs.RunsTogether as RunsTogether
pub use Rattle.rd_journals.proofs.RunsTrafficLemmas as RunsTrafficLemmas
