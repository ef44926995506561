pub mod Walk
pub mod Pairs
pub mod WrittenDown
