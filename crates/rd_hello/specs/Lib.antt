pub mod Capability
pub mod Hello
pub mod Rows
pub mod Own
pub mod ClientTable
pub mod HostTable
pub mod Worked
pub mod Moves
