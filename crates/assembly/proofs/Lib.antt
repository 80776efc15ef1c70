pub mod Adding
pub mod Assembling
pub mod Splitting
