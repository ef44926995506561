pub mod LineLaws
pub mod WriteLaws
