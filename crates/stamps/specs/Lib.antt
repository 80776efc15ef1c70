pub mod Range
pub mod Stamp
pub mod Lead
pub mod Rules
pub mod Text
