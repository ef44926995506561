pub mod Numbers
pub mod Fields
pub mod Lines
pub mod File
pub mod Tables
pub mod Accepts
pub mod Accepted
pub mod Claims
