pub mod CarriedFrames
pub mod DeedLemmas
pub mod FrameLemmas
pub mod KindLemmas
pub mod MessageLemmas
pub mod PairLemmas
pub mod ValueLemmas
