pub mod Bytes
pub mod Channels
pub mod Messages
pub mod Views
pub mod Entries
pub mod Kept
