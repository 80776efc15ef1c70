pub mod Entering
pub mod SmallHistory
pub mod Long
pub mod Orders
pub mod Broken
