pub mod AwayLemmas
pub mod CallLemmas
pub mod CutLemmas
pub mod DeskLemmas
pub mod LaterLemmas
pub mod LeftLemmas
pub mod OpenLemmas
pub mod PlaceLemmas
pub mod RefuseLemmas
pub mod RestLemmas
pub mod SayLemmas
pub mod StepLemmas
pub mod WayLemmas
pub mod WornLemmas
pub use Rattle.rd_served_order.proofs.ActedDataLemmas as ActedDataLemmas
pub use Rattle.rd_served_order.proofs.ActedListLemmas as ActedListLemmas
pub use Rattle.rd_served_order.proofs.ActedQuietLemmas as ActedQuietLemmas
pub use Rattle.rd_served_order.proofs.JoinedTiedLemmas as JoinedTiedLemmas
pub use Rattle.rd_served_order.proofs.JournalsAskingLemmas as JournalsAskingLemmas
pub use Rattle.rd_served_order.proofs.JournalsDeclaredLemmas as JournalsDeclaredLemmas
pub use Rattle.rd_served_order.proofs.JournalsHeldLemmas as JournalsHeldLemmas
pub use Rattle.rd_served_order.proofs.JournalsReplyLemmas as JournalsReplyLemmas
pub use Rattle.rd_served_order.proofs.JournalsWorkLemmas as JournalsWorkLemmas
pub use Rattle.rd_served_order.proofs.RefusedAnswerLemmas as RefusedAnswerLemmas
pub use Rattle.rd_served_order.proofs.RepliedMatchLemmas as RepliedMatchLemmas
pub use Rattle.rd_served_order.proofs.RunsBoundLemmas as RunsBoundLemmas
pub use Rattle.rd_served_order.proofs.ServedCallLemmas as ServedCallLemmas
pub use Rattle.rd_served_order.proofs.ServedCauseLemmas as ServedCauseLemmas
pub use Rattle.rd_served_order.proofs.ServedChannelLemmas as ServedChannelLemmas
pub use Rattle.rd_served_order.proofs.ServedComesLemmas as ServedComesLemmas
pub use Rattle.rd_served_order.proofs.ServedHeldLemmas as ServedHeldLemmas
pub use Rattle.rd_served_order.proofs.ServedKeyLemmas as ServedKeyLemmas
pub use Rattle.rd_served_order.proofs.ServedOrderLemmas as ServedOrderLemmas
pub use Rattle.rd_served_order.proofs.OrderLemmas as ServedOrderOrderLemmas
pub use Rattle.rd_served_order.proofs.OwnLemmas as ServedOrderOwnLemmas
pub use Rattle.rd_served_order.proofs.SentLemmas as ServedOrderSentLemmas
pub use Rattle.rd_served_refusals.proofs.HinderLemmas as ServedRefusalsHinderLemmas
pub use Rattle.rd_served_refusals.proofs.InLineLemmas as ServedRefusalsInLineLemmas
pub use Rattle.rd_served_refusals.proofs.PointLemmas as ServedRefusalsPointLemmas
pub use Rattle.rd_served_replies.proofs.BeginLemmas as ServedRepliesBeginLemmas
pub use Rattle.rd_served_replies.proofs.EachLemmas as ServedRepliesEachLemmas
pub use Rattle.rd_served_replies.proofs.FollowLemmas as ServedRepliesFollowLemmas
pub use Rattle.rd_served_replies.proofs.GivenLemmas as ServedRepliesGivenLemmas
pub use Rattle.rd_served_replies.proofs.GoneLemmas as ServedRepliesGoneLemmas
pub use Rattle.rd_served_replies.proofs.KnownLemmas as ServedRepliesKnownLemmas
pub use Rattle.rd_served_replies.proofs.LedLemmas as ServedRepliesLedLemmas
pub use Rattle.rd_served_replies.proofs.MildLemmas as ServedRepliesMildLemmas
pub use Rattle.rd_served_replies.proofs.ReadLemmas as ServedRepliesReadLemmas
pub use Rattle.rd_served_order.proofs.ServedStandingLemmas as ServedStandingLemmas
pub use Rattle.rd_served_order.proofs.ServedStationLemmas as ServedStationLemmas
pub use Rattle.rd_served_order.proofs.ServedStoreLemmas as ServedStoreLemmas
pub use Rattle.rd_served_order.proofs.ServedWalkLemmas as ServedWalkLemmas
pub use Rattle.rd_served_order.proofs.ServedWorkLemmas as ServedWorkLemmas
