pub mod Lines
pub mod Program
pub mod Texts
