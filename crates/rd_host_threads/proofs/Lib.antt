pub mod PassLemmas
pub mod PlayLemmas
pub mod ChannelLemmas
pub mod SessionLemmas
pub mod EntryLemmas
pub mod ThreadLemmas
