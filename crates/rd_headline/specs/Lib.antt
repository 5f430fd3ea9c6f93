pub mod Heard
pub mod Wrong
pub use Rattle.rd_loads.specs.AllPremises as LoadsAllPremises
