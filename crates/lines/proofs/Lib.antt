pub mod Adding
mod Spacing
