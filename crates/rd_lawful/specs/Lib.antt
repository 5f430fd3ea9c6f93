pub mod Rules
pub mod Memory
pub mod Judged
pub mod Worked
