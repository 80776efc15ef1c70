mod Told
mod Last
mod Finality
mod Recorded
mod Sources
mod Counted
mod Found
mod Onward
pub mod Stays
pub mod Inspected
