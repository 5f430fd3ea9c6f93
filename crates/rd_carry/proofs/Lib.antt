pub mod IncomingLemmas
pub mod OutgoingLemmas
