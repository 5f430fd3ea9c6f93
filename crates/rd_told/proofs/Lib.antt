pub mod OpenLemmas
pub mod PlainLemmas
pub mod PrintedLemmas
pub use Rattle.rd_joined.proofs.BookLemmas as JoinedBookLemmas
pub use Rattle.rd_joined.proofs.JournalLemmas as JoinedJournalLemmas
pub use Rattle.rd_joined.proofs.ScriptLemmas as JoinedScriptLemmas
pub use Rattle.rd_joined.proofs.JournalsDeclaredLemmas as JournalsDeclaredLemmas
pub use Rattle.rd_joined.proofs.JournalsDeviceLemmas as JournalsDeviceLemmas
pub use Rattle.rd_joined.proofs.JournalsRunLemmas as JournalsRunLemmas
pub use Rattle.rd_joined.proofs.RunsBeginningLemmas as RunsBeginningLemmas
pub use Rattle.rd_joined.proofs.RunsBelowLemmas as RunsBelowLemmas
pub use Rattle.rd_joined.proofs.RunsInsides as RunsInsides
pub use Rattle.rd_joined.proofs.RunsKeysOn as RunsKeysOn
pub use Rattle.rd_joined.proofs.RunsParts as RunsParts
pub use Rattle.rd_joined.proofs.RunsReaching as RunsReaching
pub use Rattle.rd_joined.proofs.RunsStanding as RunsStanding
pub use Rattle.rd_joined.proofs.RunsTogether as RunsTogether
pub use Rattle.rd_joined.proofs.RunsTrafficLemmas as RunsTrafficLemmas
