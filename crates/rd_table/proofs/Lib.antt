pub mod StepLemmas
pub mod UntakenLemmas
pub mod AcceptsLemmas
pub mod ChannelLemmas
pub mod HandedLemmas
pub mod EndLemmas
pub mod PassLemmas
pub mod PlaceLemmas
