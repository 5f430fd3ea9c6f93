pub mod HostedLemmas
pub mod PassLemmas
pub mod SendLemmas
pub mod ServingLemmas
