mod Found
pub mod Latest
mod Listed
