pub mod FormulaLaws
pub mod SimpleLaws
pub mod ShortLaws
pub mod ValidLaws
