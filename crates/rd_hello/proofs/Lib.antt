pub mod CapabilityLemmas
pub mod HelloLemmas
