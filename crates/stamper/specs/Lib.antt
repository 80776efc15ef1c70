pub mod Settings
pub mod Stamps
pub mod Readings
