pub mod ScriptLemmas
pub mod LoadedLemmas
pub mod LoadLemmas
