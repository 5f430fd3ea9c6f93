pub mod Acts
pub mod Parted
pub mod Placed
pub mod Announcing
pub mod Causes
pub mod Comings
pub mod Drops
pub mod Sessions
pub mod Steps
pub use Rattle.rd_served_causes.specs.JoinedJoined as JoinedJoined
pub use Rattle.rd_served_causes.specs.JournalsReads as JournalsReads
pub use Rattle.rd_served_causes.specs.ServedDevices as ServedDevices
pub use Rattle.rd_served_causes.specs.ServedParts as ServedParts
pub use Rattle.rd_served_causes.specs.ServedRepliesGiven as ServedRepliesGiven
