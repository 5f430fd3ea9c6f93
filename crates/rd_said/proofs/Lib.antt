pub mod RestLemmas
pub mod SameLemmas
pub mod LastLemmas
pub mod EndingLemmas
pub mod PartLemmas
pub mod LeftLemmas
pub mod ToldLemmas
pub use Rattle.rd_acted.proofs.ActLemmas as ActedActLemmas
pub use Rattle.rd_acted.proofs.DueLemmas as ActedDueLemmas
pub use Rattle.rd_acted.proofs.EndedLemmas as ActedEndedLemmas
pub use Rattle.rd_acted.proofs.OrderLemmas as ActedOrderLemmas
pub use Rattle.rd_acted.proofs.ReadLemmas as ActedReadLemmas
pub use Rattle.rd_acted.proofs.RunLemmas as ActedRunLemmas
pub use Rattle.rd_acted.proofs.AnsweredSessionLemmas as AnsweredSessionLemmas
pub use Rattle.rd_acted.proofs.ControlsLeading as ControlsLeading
pub use Rattle.rd_acted.proofs.ControlsNumbers as ControlsNumbers
pub use Rattle.rd_acted.proofs.ControlsUnseen as ControlsUnseen
pub use Rattle.rd_acted.proofs.ControlsWalking as ControlsWalking
pub use Rattle.rd_acted.proofs.JoinedBookLemmas as JoinedBookLemmas
pub use Rattle.rd_acted.proofs.JoinedScriptLemmas as JoinedScriptLemmas
pub use Rattle.rd_acted.proofs.JournalsChannelLemmas as JournalsChannelLemmas
pub use Rattle.rd_acted.proofs.JournalsDeclaredLemmas as JournalsDeclaredLemmas
pub use Rattle.rd_orders.proofs.ClientOrdering as OrdersClientOrdering
pub use Rattle.rd_orders.proofs.Meeting as OrdersMeeting
pub use Rattle.rd_orders.proofs.RecordedLemmas as OrdersRecordedLemmas
pub use Rattle.rd_acted.proofs.RestCompletedLemmas as RestCompletedLemmas
pub use Rattle.rd_acted.proofs.RestFullLemmas as RestFullLemmas
pub use Rattle.rd_acted.proofs.RestLeftLemmas as RestLeftLemmas
pub use Rattle.rd_acted.proofs.RestRunLemmas as RestRunLemmas
pub use Rattle.rd_acted.proofs.RunsBeginningLemmas as RunsBeginningLemmas
pub use Rattle.rd_acted.proofs.RunsHostLemmas as RunsHostLemmas
pub use Rattle.rd_acted.proofs.RunsInsides as RunsInsides
pub use Rattle.rd_acted.proofs.RunsParts as RunsParts
pub use Rattle.rd_acted.proofs.RunsReaching as RunsReaching
pub use Rattle.rd_acted.proofs.RunsResting as RunsResting
pub use Rattle.rd_acted.proofs.RunsStanding as RunsStanding
pub use Rattle.rd_acted.proofs.RunsTogether as RunsTogether
pub use Rattle.rd_acted.proofs.RunsTrafficLemmas as RunsTrafficLemmas
pub use Rattle.rd_acted.proofs.ToldOpenLemmas as ToldOpenLemmas
pub use Rattle.rd_acted.proofs.ToldPlainLemmas as ToldPlainLemmas
pub use Rattle.rd_acted.proofs.ToldPrintedLemmas as ToldPrintedLemmas
