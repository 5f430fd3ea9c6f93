pub mod OptionLemmas
pub mod DecimalLemmas
pub mod FieldLemmas
pub mod LineLemmas
pub mod JournalLemmas
pub mod FileLemmas
pub mod OneReadingLemmas
pub mod WritingLemmas
