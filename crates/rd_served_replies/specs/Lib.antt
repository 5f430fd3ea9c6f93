pub mod Given
pub mod Premises
pub use Rattle.rd_refused.specs.RepliedRemovals as RepliedRemovals
