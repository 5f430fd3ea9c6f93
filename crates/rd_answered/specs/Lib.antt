pub mod Refusing
pub use Rattle.rd_directs.specs.Turns as DirectsTurns
pub use Rattle.rd_joined.specs.Joined as JoinedJoined
pub use Rattle.rd_refused.specs.JournalsJobs as JournalsJobs
pub use Rattle.rd_refused.specs.JournalsOrderly as JournalsOrderly
pub use Rattle.rd_refused.specs.JournalsStanding as JournalsStanding
pub use Rattle.rd_refused.specs.JournalsStations as JournalsStations
pub use Rattle.rd_refused.specs.Refused as RefusedRefused
pub use Rattle.rd_refused.specs.RunsMoves as RunsMoves
pub use Rattle.rd_refused.specs.RunsPremises as RunsPremises
