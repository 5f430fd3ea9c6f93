pub mod Exchanges
pub mod Worked
