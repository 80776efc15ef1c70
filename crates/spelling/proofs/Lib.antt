pub mod Padding
pub mod Shapes
