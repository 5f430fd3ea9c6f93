pub mod Refused
pub use Rattle.rd_replied.specs.JournalsJobs as JournalsJobs
pub use Rattle.rd_replied.specs.JournalsOrderly as JournalsOrderly
pub use Rattle.rd_replied.specs.JournalsReads as JournalsReads
pub use Rattle.rd_replied.specs.JournalsStanding as JournalsStanding
pub use Rattle.rd_replied.specs.JournalsStations as JournalsStations
pub use Rattle.rd_replied.specs.JournalsTold as JournalsTold
pub use Rattle.rd_replied.specs.Removals as RepliedRemovals
pub use Rattle.rd_replied.specs.Replied as RepliedReplied
pub use Rattle.rd_replied.specs.Since as RepliedSince
pub use Rattle.rd_replied.specs.RunsMoves as RunsMoves
pub use Rattle.rd_replied.specs.RunsPremises as RunsPremises
