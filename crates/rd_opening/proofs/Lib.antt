pub mod QuietLemmas
pub mod Rounds
pub mod TellingCounts
pub mod Greeting
pub mod Opened
pub mod Running
pub mod ChannelLemmas
pub mod RunLemmas
pub mod Submitted
pub mod SentLemmas
pub mod EventParts
pub mod Issuing
pub use Rattle.rd_orders.proofs.ControlsWalking as ControlsWalking
pub use Rattle.rd_orders.proofs.AddressLemmas as OrdersAddressLemmas
pub use Rattle.rd_orders.proofs.Meeting as OrdersMeeting
pub use Rattle.rd_orders.proofs.PhaseLemmas as OrdersPhaseLemmas
