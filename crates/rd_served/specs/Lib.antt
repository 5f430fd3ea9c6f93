pub mod Served
pub mod Parts
pub mod Histories
pub mod Deeds
pub mod OnChannel
pub use Rattle.rd_journals.specs.Jobs as JournalsJobs
pub use Rattle.rd_journals.specs.Reads as JournalsReads
pub use Rattle.rd_journals.specs.Standing as JournalsStanding
pub use Rattle.rd_journals.specs.Stations as JournalsStations
pub use Rattle.rd_journals.specs.RunsPremises as RunsPremises
pub use Rattle.rd_served_devices.specs.ServedDevices as ServedDevices
