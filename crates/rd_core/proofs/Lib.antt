pub mod OrderLemmas
pub mod StandLemmas
pub mod KeptLemmas
pub mod ExpectedLemmas
pub mod FaultPlaceLemmas
pub mod OpeningLemmas
pub mod HearLemmas
pub mod PacketLemmas
