pub mod Machine
pub mod Orders
pub mod Page
pub mod Traced
pub mod Within
