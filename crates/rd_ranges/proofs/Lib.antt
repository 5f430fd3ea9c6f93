pub mod DeviceLemmas
pub mod DeclaredLemmas
pub mod JournalLemmas
pub mod SpelledLemmas
pub mod ReadLemmas
pub mod SessionLemmas
pub mod RowLemmas
pub mod ScriptLemmas
