pub mod Printed
pub mod Claims
