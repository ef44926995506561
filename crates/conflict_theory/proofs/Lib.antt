pub mod Worked
pub mod Subsets
pub mod Search
pub mod Shortest
pub mod CommonSolution
pub mod CodeLaws
pub mod Claims
