pub mod Channels
pub mod Hosted
