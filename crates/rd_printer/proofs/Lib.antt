pub mod NoticeLemmas
pub mod PrinterLemmas
pub mod StepLemmas
pub mod EntryLemmas
pub mod CacheLemmas
