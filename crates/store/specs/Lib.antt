pub mod Answers
pub mod Contents
pub mod Keys
pub mod Newest
pub mod Page
pub mod Versions
