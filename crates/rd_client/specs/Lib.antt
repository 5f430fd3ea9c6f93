pub mod Core
pub mod Heard
pub mod Order
pub mod Events
pub mod Worked
