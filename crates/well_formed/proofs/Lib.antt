pub mod Step
pub mod WellFormed
pub mod Weight
pub mod Levels
pub mod Distinct
pub mod TooDeep
pub mod Claims
