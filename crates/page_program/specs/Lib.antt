pub mod Arguments
pub mod Printed
