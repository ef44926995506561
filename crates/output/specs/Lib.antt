pub mod Output
pub mod Appending
pub mod Turns
