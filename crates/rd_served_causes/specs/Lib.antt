pub mod Causes
pub mod Cuts
pub mod Left
pub mod Open
pub mod Worn
pub use Rattle.rd_served_order.specs.ActedActed as ActedActed
pub use Rattle.rd_served_order.specs.JoinedJoined as JoinedJoined
pub use Rattle.rd_served_order.specs.JournalsJobs as JournalsJobs
pub use Rattle.rd_served_order.specs.JournalsReads as JournalsReads
pub use Rattle.rd_served_order.specs.JournalsStations as JournalsStations
pub use Rattle.rd_served_order.specs.RunsPremises as RunsPremises
pub use Rattle.rd_served_order.specs.ServedDeeds as ServedDeeds
pub use Rattle.rd_served_order.specs.ServedHistories as ServedHistories
pub use Rattle.rd_served_order.specs.ServedDevices as ServedDevices
pub use Rattle.rd_served_order.specs.ServedOnChannel as ServedOnChannel
pub use Rattle.rd_served_order.specs.Orders as ServedOrderOrders
pub use Rattle.rd_served_order.specs.Sent as ServedOrderSent
pub use Rattle.rd_served_order.specs.Tellings as ServedOrderTellings
pub use Rattle.rd_served_order.specs.ServedParts as ServedParts
pub use Rattle.rd_served_refusals.specs.Heeding as ServedRefusalsHeeding
pub use Rattle.rd_served_replies.specs.Given as ServedRepliesGiven
pub use Rattle.rd_served_replies.specs.Premises as ServedRepliesPremises
pub use Rattle.rd_served_replies.specs.RepliedRemovals as RepliedRemovals
pub use Rattle.rd_served_order.specs.ServedServed as ServedServed
