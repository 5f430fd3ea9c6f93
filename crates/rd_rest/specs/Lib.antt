pub mod Rest
pub mod Ending
pub use Rattle.rd_answered.specs.Refusing as AnsweredRefusing
pub use Rattle.rd_controls.specs.Controls as ControlsControls
pub use Rattle.rd_answered.specs.DirectsTurns as DirectsTurns
pub use Rattle.rd_answered.specs.JoinedJoined as JoinedJoined
pub use Rattle.rd_answered.specs.JournalsJobs as JournalsJobs
pub use Rattle.rd_answered.specs.JournalsOrderly as JournalsOrderly
pub use Rattle.rd_answered.specs.JournalsStanding as JournalsStanding
pub use Rattle.rd_answered.specs.JournalsStations as JournalsStations
pub use Rattle.rd_answered.specs.RefusedRefused as RefusedRefused
pub use Rattle.rd_answered.specs.RunsMoves as RunsMoves
pub use Rattle.rd_answered.specs.RunsPremises as RunsPremises
