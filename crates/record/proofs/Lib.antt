pub mod Cells
pub mod TableLaws
pub mod EquationLaws
pub mod InputLaws
