pub mod Lent
pub mod Lengths
pub mod Parts
