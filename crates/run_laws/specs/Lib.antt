pub mod Examples
pub mod InWords
