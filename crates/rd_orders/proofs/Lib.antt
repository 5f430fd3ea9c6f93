pub mod SayingLemmas
pub mod PhaseLemmas
pub mod MeetingLemmas
pub mod Meeting
pub mod Marked
pub mod ClientOrders
pub mod ClientOrdering
pub mod LifeLemmas
pub mod HostOrders
pub mod HostOrdering
pub mod AddressLemmas
pub mod RecordedLemmas
pub use Rattle.rd_controls.proofs.Numbers as ControlsNumbers
pub use Rattle.rd_controls.proofs.ReadyLemmas as ControlsReadyLemmas
pub use Rattle.rd_controls.proofs.Resting as ControlsResting
pub use Rattle.rd_controls.proofs.ScriptLemmas as ControlsScriptLemmas
pub use Rattle.rd_controls.proofs.Unseen as ControlsUnseen
pub use Rattle.rd_controls.proofs.Walking as ControlsWalking
pub use Rattle.rd_controls.proofs.RangesDeclaredLemmas as RangesDeclaredLemmas
pub use Rattle.rd_controls.proofs.RangesScriptLemmas as RangesScriptLemmas
pub use Rattle.rd_controls.proofs.RunsBeginningLemmas as RunsBeginningLemmas
pub use Rattle.rd_controls.proofs.RunsBelowLemmas as RunsBelowLemmas
pub use Rattle.rd_controls.proofs.RunsHandled as RunsHandled
pub use Rattle.rd_controls.proofs.RunsHostLemmas as RunsHostLemmas
pub use Rattle.rd_controls.proofs.RunsInsides as RunsInsides
pub use Rattle.rd_controls.proofs.RunsKeysOn as RunsKeysOn
pub use Rattle.rd_controls.proofs.RunsKeysOnLemmas as RunsKeysOnLemmas
pub use Rattle.rd_controls.proofs.RunsParts as RunsParts
pub use Rattle.rd_controls.proofs.RunsReaching as RunsReaching
pub use Rattle.rd_controls.proofs.RunsResting as RunsResting
pub use Rattle.rd_controls.proofs.RunsStanding as RunsStanding
pub use Rattle.rd_controls.proofs.RunsTogether as RunsTogether
pub use Rattle.rd_controls.proofs.RunsTrafficLemmas as RunsTrafficLemmas
pub use Rattle.rd_controls.proofs.RunsWayLemmas as RunsWayLemmas
