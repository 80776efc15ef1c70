pub mod Names
pub mod Making
