pub mod Rows
pub mod Nodes
pub mod Vars
pub mod Types
pub mod Log
pub mod RowLaws
pub mod Read
pub mod Back
