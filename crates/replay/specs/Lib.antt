pub mod Calls
pub mod Runs
pub mod Replay
pub mod Within
