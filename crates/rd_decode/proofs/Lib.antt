pub mod AwaitedLemmas
pub mod EntryLemmas
pub mod FrameHeadLemmas
pub mod GoesOnLemmas
pub mod MessageLemmas
pub mod MoreBytes
pub mod PrintingLemmas
pub mod ReadingLemmas
