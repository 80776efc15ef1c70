pub mod State
pub mod Answers
pub mod Changes
