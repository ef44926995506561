pub mod CellLaws
pub mod NodeLaws
pub mod VarLaws
pub mod TypeLaws
pub mod LogLaws
