pub mod Stays
pub mod Inspected
