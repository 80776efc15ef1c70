pub mod Events
pub mod Before
pub mod History
pub mod Law
pub mod Unique
