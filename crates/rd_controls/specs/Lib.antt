pub mod Controls
pub use Rattle.rd_ranges.specs.Ranges as RangesRanges
pub use Rattle.rd_runs.specs.Moves as RunsMoves
pub use Rattle.rd_runs.specs.Premises as RunsPremises
