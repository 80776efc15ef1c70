pub mod Numbers
pub mod Longest
pub mod Over
pub mod Parsing
pub mod Reading
pub mod Trips
pub mod Whole
pub mod OneWay
