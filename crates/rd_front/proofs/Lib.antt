pub mod CountLemmas
pub mod DeskLemmas
pub mod EachLemmas
pub mod FillLemmas
pub mod GoingLemmas
pub mod StepLemmas
pub mod TellingLemmas
pub mod WorkedLemmas
