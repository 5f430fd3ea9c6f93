pub mod ClientLemmas
pub mod HeadedLemmas
pub mod HostLemmas
pub mod LineLemmas
pub mod OpenLemmas
pub mod OrderLemmas
pub mod SessionLemmas
pub mod TurnLemmas
