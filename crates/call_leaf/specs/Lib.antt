pub mod Keeps
pub mod Outcomes
