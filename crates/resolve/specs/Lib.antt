pub mod Resolve
pub mod Body
