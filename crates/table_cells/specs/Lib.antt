pub mod Zeros
pub mod Stores
pub mod Rows
