pub mod Calls
pub mod Played
pub mod Channels
pub mod Threads
