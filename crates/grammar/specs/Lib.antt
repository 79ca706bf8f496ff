pub mod Rule
pub mod Good
pub mod Giving
pub mod Faults
