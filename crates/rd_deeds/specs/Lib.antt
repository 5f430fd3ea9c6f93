pub mod Host
pub mod Talk
pub mod Told
pub mod HostDeeds
pub mod Joining
pub mod Example
