pub mod Trail
pub mod Opened
