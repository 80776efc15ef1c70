pub mod Lines
pub mod Names
pub mod Numbers
pub mod Puts
