pub mod Search
pub mod Bridge
