pub mod Orders
pub mod Sent
pub mod Tellings
pub use Rattle.rd_acted.specs.Acted as ActedActed
pub use Rattle.rd_acted.specs.Waiting as ActedWaiting
pub use Rattle.rd_acted.specs.AnsweredRefusing as AnsweredRefusing
pub use Rattle.rd_acted.specs.JoinedJoined as JoinedJoined
pub use Rattle.rd_served.specs.JournalsJobs as JournalsJobs
pub use Rattle.rd_served.specs.JournalsReads as JournalsReads
pub use Rattle.rd_served.specs.JournalsStanding as JournalsStanding
pub use Rattle.rd_served.specs.JournalsStations as JournalsStations
pub use Rattle.rd_acted.specs.RefusedRefused as RefusedRefused
pub use Rattle.rd_served.specs.RunsPremises as RunsPremises
pub use Rattle.rd_served.specs.Deeds as ServedDeeds
pub use Rattle.rd_served.specs.Histories as ServedHistories
pub use Rattle.rd_served.specs.ServedDevices as ServedDevices
pub use Rattle.rd_served.specs.OnChannel as ServedOnChannel
pub use Rattle.rd_served.specs.Parts as ServedParts
pub use Rattle.rd_served.specs.Served as ServedServed
