pub mod HeadLemmas
pub mod NowLemmas
pub mod OwnLemmas
pub mod OrderLemmas
pub mod SentLemmas
pub mod TellingLemmas
pub use Rattle.rd_acted.proofs.DataLemmas as ActedDataLemmas
pub use Rattle.rd_acted.proofs.ListLemmas as ActedListLemmas
pub use Rattle.rd_acted.proofs.QuietLemmas as ActedQuietLemmas
pub use Rattle.rd_acted.proofs.AnsweredListedLemmas as AnsweredListedLemmas
pub use Rattle.rd_acted.proofs.AnsweredReadyLemmas as AnsweredReadyLemmas
pub use Rattle.rd_acted.proofs.AnsweredSayingLemmas as AnsweredSayingLemmas
pub use Rattle.rd_acted.proofs.JoinedTiedLemmas as JoinedTiedLemmas
pub use Rattle.rd_served.proofs.JournalsAskingLemmas as JournalsAskingLemmas
pub use Rattle.rd_served.proofs.JournalsCameLemmas as JournalsCameLemmas
pub use Rattle.rd_served.proofs.JournalsCompletionLemmas as JournalsCompletionLemmas
pub use Rattle.rd_served.proofs.JournalsDeclaredLemmas as JournalsDeclaredLemmas
pub use Rattle.rd_served.proofs.JournalsHeldLemmas as JournalsHeldLemmas
pub use Rattle.rd_served.proofs.JournalsReplyLemmas as JournalsReplyLemmas
pub use Rattle.rd_served.proofs.JournalsShortLemmas as JournalsShortLemmas
pub use Rattle.rd_served.proofs.JournalsWorkLemmas as JournalsWorkLemmas
pub use Rattle.rd_served.proofs.JournalsWritingLemmas as JournalsWritingLemmas
pub use Rattle.rd_acted.proofs.RefusedAnswerLemmas as RefusedAnswerLemmas
pub use Rattle.rd_acted.proofs.RefusedMarkLemmas as RefusedMarkLemmas
pub use Rattle.rd_acted.proofs.RefusedSaidLemmas as RefusedSaidLemmas
pub use Rattle.rd_acted.proofs.RepliedMatchLemmas as RepliedMatchLemmas
pub use Rattle.rd_served.proofs.RunsBoundLemmas as RunsBoundLemmas
pub use Rattle.rd_served.proofs.CallLemmas as ServedCallLemmas
pub use Rattle.rd_served.proofs.CauseLemmas as ServedCauseLemmas
pub use Rattle.rd_served.proofs.ChannelLemmas as ServedChannelLemmas
pub use Rattle.rd_served.proofs.ComesLemmas as ServedComesLemmas
pub use Rattle.rd_served.proofs.HeldLemmas as ServedHeldLemmas
pub use Rattle.rd_served.proofs.KeyLemmas as ServedKeyLemmas
pub use Rattle.rd_served.proofs.MeetLemmas as ServedMeetLemmas
pub use Rattle.rd_served.proofs.OrderLemmas as ServedOrderLemmas
pub use Rattle.rd_served.proofs.StandingLemmas as ServedStandingLemmas
pub use Rattle.rd_served.proofs.StationLemmas as ServedStationLemmas
pub use Rattle.rd_served.proofs.StoreLemmas as ServedStoreLemmas
pub use Rattle.rd_served.proofs.WalkLemmas as ServedWalkLemmas
pub use Rattle.rd_served.proofs.WorkLemmas as ServedWorkLemmas
