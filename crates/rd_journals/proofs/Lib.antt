pub mod DeviceLemmas
pub mod CallLemmas
pub mod AskingLemmas
pub mod HeldLemmas
pub mod OrderlyLemmas
pub mod ClientLemmas
pub mod HostLemmas
pub mod ChannelLemmas
pub mod RunLemmas
pub mod ReplyLemmas
pub mod ShortLemmas
pub mod WritingLemmas
pub mod StandingLemmas
pub mod ServingLemmas
pub mod WorkLemmas
pub mod OwnLemmas
pub mod CompletionLemmas
pub mod DeclaredLemmas
pub mod RoomLemmas
pub mod AnswerLemmas
pub mod InOrderLemmas
pub mod CameLemmas
pub use Rattle.rd_runs.proofs.AskedLemmas as RunsAskedLemmas
pub use Rattle.rd_runs.proofs.BeginningLemmas as RunsBeginningLemmas
pub use Rattle.rd_runs.proofs.BelowLemmas as RunsBelowLemmas
pub use Rattle.rd_runs.proofs.BoundLemmas as RunsBoundLemmas
pub use Rattle.rd_runs.proofs.Carrying as RunsCarrying
pub use Rattle.rd_runs.proofs.Counting as RunsCounting
pub use Rattle.rd_runs.proofs.FittingLines as RunsFittingLines
pub use Rattle.rd_runs.proofs.HostLemmas as RunsHostLemmas
pub use Rattle.rd_runs.proofs.IdleLemmas as RunsIdleLemmas
pub use Rattle.rd_runs.proofs.Insides as RunsInsides
pub use Rattle.rd_runs.proofs.KeysOn as RunsKeysOn
pub use Rattle.rd_runs.proofs.KeysOnLemmas as RunsKeysOnLemmas
pub use Rattle.rd_runs.proofs.Parts as RunsParts
pub use Rattle.rd_runs.proofs.Reaching as RunsReaching
pub use Rattle.rd_runs.proofs.Resting as RunsResting
pub use Rattle.rd_runs.proofs.RoomLemmas as RunsRoomLemmas
pub use Rattle.rd_runs.proofs.SizeLemmas as RunsSizeLemmas
pub use Rattle.rd_runs.proofs.Standing as RunsStanding
pub use Rattle.rd_runs.proofs.Together as RunsTogether
pub use Rattle.rd_runs.proofs.TrafficLemmas as RunsTrafficLemmas
