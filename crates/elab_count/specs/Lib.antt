pub mod Counting
pub mod Amounts
pub mod Instances
pub mod Progress
