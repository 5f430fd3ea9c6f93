pub mod SlotLemmas
pub mod StandingLemmas
pub mod WantedLemmas
