pub mod Acted
pub mod Waiting
pub use Rattle.rd_rest.specs.AnsweredRefusing as AnsweredRefusing
pub use Rattle.rd_rest.specs.ControlsControls as ControlsControls
pub use Rattle.rd_rest.specs.DirectsTurns as DirectsTurns
pub use Rattle.rd_rest.specs.JoinedJoined as JoinedJoined
pub use Rattle.rd_rest.specs.JournalsJobs as JournalsJobs
pub use Rattle.rd_rest.specs.JournalsOrderly as JournalsOrderly
pub use Rattle.rd_rest.specs.JournalsStanding as JournalsStanding
pub use Rattle.rd_rest.specs.JournalsStations as JournalsStations
pub use Rattle.rd_rest.specs.RefusedRefused as RefusedRefused
pub use Rattle.rd_rest.specs.RunsMoves as RunsMoves
pub use Rattle.rd_rest.specs.RunsPremises as RunsPremises
