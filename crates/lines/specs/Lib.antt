pub mod Adding
pub mod Lines
