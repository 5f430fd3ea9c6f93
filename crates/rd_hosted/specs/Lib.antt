pub mod Asks
pub mod Heard
pub mod Kept
