pub mod Keys
pub mod Records
pub mod Verbs
pub mod Written
