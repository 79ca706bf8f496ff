pub mod Truth
pub mod Steps
pub mod Validity
pub mod Simple
