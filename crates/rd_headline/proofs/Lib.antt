pub mod StandLemmas
pub mod HeardLemmas
pub mod AnsweredLemmas
pub mod StillLemmas
pub mod WholeLemmas
pub mod SessionLemmas
pub mod WrongLemmas
pub use Rattle.rd_said.proofs.JoinedScriptLemmas as JoinedScriptLemmas
pub use Rattle.rd_loads.proofs.LoadLemmas as LoadsLoadLemmas
pub use Rattle.rd_loads.proofs.ScriptLemmas as LoadsScriptLemmas
