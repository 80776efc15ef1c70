pub mod Numbers
pub mod Kinds
pub mod Contents
pub mod Ranges
pub mod Format
pub mod Readers
pub mod Writing
pub mod Whole
