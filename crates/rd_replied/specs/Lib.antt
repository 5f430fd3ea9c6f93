pub mod Replied
pub mod Removals
pub mod Since
pub use Rattle.rd_journals.specs.Jobs as JournalsJobs
pub use Rattle.rd_journals.specs.Orderly as JournalsOrderly
pub use Rattle.rd_journals.specs.Reads as JournalsReads
pub use Rattle.rd_journals.specs.Standing as JournalsStanding
pub use Rattle.rd_journals.specs.Stations as JournalsStations
pub use Rattle.rd_journals.specs.Told as JournalsTold
pub use Rattle.rd_journals.specs.RunsMoves as RunsMoves
pub use Rattle.rd_journals.specs.RunsPremises as RunsPremises
