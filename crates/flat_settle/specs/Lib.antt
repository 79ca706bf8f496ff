pub mod Raw
pub mod Driven
pub mod Refusals
pub mod Tables
pub mod Judged
pub mod Naming
pub mod Sample
