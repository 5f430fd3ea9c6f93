pub mod State
pub mod HostFront
pub mod Kept
pub mod Asked
pub mod Parts
