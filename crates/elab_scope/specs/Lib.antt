pub mod Nets
pub mod Modules
