pub mod Peers
pub mod Lines
