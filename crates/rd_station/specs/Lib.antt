pub mod Station
pub mod Queues
pub mod Tied
pub mod Memory
pub mod Sound
pub mod Worked
