pub mod ReportLaws
pub mod Example
pub mod Claims
