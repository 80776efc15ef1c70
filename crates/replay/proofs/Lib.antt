mod Gaining
mod Standing
mod Asking
pub mod Whole
