pub mod Places
pub mod Walk
pub mod Nodes
pub mod Sample
