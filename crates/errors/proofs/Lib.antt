pub mod ErrorLaws
pub mod Listed
pub mod Filling
