pub mod Quarrel
pub mod Parts
pub mod Answered
pub mod Claims
