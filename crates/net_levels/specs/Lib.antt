pub mod Needs
pub mod Levels
pub mod Laws
