pub mod Core
pub mod Heard
pub mod Served
pub mod Order
pub mod Events
pub mod Worked
