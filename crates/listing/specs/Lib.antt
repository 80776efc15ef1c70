pub mod Outcomes
pub mod Text
