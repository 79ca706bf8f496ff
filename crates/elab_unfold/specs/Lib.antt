pub mod Places
pub mod Shapes
pub mod Ports
pub mod Steps
pub mod Adding
pub mod Whole
pub mod Parts
