pub mod Walking
pub mod ReadyLemmas
pub mod Unseen
pub mod Marks
pub mod Numbers
pub mod Acting
pub mod Leading
pub mod ScriptLemmas
pub mod Resting
pub mod Opening
pub mod Along
pub use Rattle.rd_ranges.proofs.DeclaredLemmas as RangesDeclaredLemmas
pub use Rattle.rd_ranges.proofs.ScriptLemmas as RangesScriptLemmas
pub use Rattle.rd_runs.proofs.AskedLemmas as RunsAskedLemmas
pub use Rattle.rd_runs.proofs.BeginningLemmas as RunsBeginningLemmas
pub use Rattle.rd_runs.proofs.BelowLemmas as RunsBelowLemmas
pub use Rattle.rd_runs.proofs.BoundLemmas as RunsBoundLemmas
pub use Rattle.rd_runs.proofs.Carrying as RunsCarrying
pub use Rattle.rd_runs.proofs.FittingLines as RunsFittingLines
pub use Rattle.rd_runs.proofs.Handled as RunsHandled
pub use Rattle.rd_runs.proofs.HostLemmas as RunsHostLemmas
pub use Rattle.rd_runs.proofs.Insides as RunsInsides
pub use Rattle.rd_runs.proofs.KeysOn as RunsKeysOn
pub use Rattle.rd_runs.proofs.KeysOnLemmas as RunsKeysOnLemmas
pub use Rattle.rd_runs.proofs.Parts as RunsParts
pub use Rattle.rd_runs.proofs.Reaching as RunsReaching
pub use Rattle.rd_runs.proofs.Resting as RunsResting
pub use Rattle.rd_runs.proofs.RoomLemmas as RunsRoomLemmas
pub use Rattle.rd_runs.proofs.SizeLemmas as RunsSizeLemmas
pub use Rattle.rd_runs.proofs.Standing as RunsStanding
pub use Rattle.rd_runs.proofs.Together as RunsTogether
pub use Rattle.rd_runs.proofs.TrafficLemmas as RunsTrafficLemmas
pub use Rattle.rd_runs.proofs.WayLemmas as RunsWayLemmas
