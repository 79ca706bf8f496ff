pub mod Design
pub mod DesignCells
pub mod DesignRuns
pub mod Order
pub mod Names
pub mod Raw
pub mod Limits
pub mod Elaborates
