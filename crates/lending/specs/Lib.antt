pub mod Slices
pub mod Sorts
pub mod Frees
pub mod Unit
pub mod Data
pub mod Records
pub mod Proved
