pub mod OpLemmas
pub mod RequestLemmas
pub mod HeadLemmas
pub mod MeasureLemmas
pub mod WrittenLemmas
pub mod Worked
