pub mod Stations
pub mod Reads
pub mod Orderly
pub mod Standing
pub mod Jobs
pub mod Told
pub use Rattle.rd_runs.specs.Counts as RunsCounts
pub use Rattle.rd_runs.specs.Moves as RunsMoves
pub use Rattle.rd_runs.specs.Premises as RunsPremises
