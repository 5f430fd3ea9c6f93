pub mod Orders
pub use Rattle.rd_controls.specs.Controls as ControlsControls
pub use Rattle.rd_controls.specs.RangesRanges as RangesRanges
pub use Rattle.rd_controls.specs.RunsMoves as RunsMoves
pub use Rattle.rd_controls.specs.RunsPremises as RunsPremises
