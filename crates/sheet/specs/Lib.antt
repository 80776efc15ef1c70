pub mod Answers
pub mod NoPage
pub mod Printed
pub mod Sheet
