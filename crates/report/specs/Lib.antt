pub mod Report
pub mod Parts
pub mod Example
pub mod Claims
