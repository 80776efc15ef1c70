pub mod Seats
pub mod Shape
pub mod Tree
