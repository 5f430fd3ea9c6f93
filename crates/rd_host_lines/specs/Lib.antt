pub mod Requests
pub mod Outcomes
pub mod Places
