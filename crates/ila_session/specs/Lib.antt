pub mod RunText
pub mod Outputs
pub mod Pieces
pub mod Shown
