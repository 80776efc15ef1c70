pub mod Events
pub mod Puts
pub mod Shown
pub mod Source
pub mod Trace
