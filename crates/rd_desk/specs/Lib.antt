pub mod Batch
pub mod Desk
pub mod Own
pub mod Hand
pub mod Worked
