pub mod JoinedLemmas
pub mod PartLemmas
pub mod HostPartLemmas
pub mod LinesLemmas
