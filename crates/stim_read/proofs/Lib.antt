pub mod Bits
pub mod Places
pub mod Tails
pub mod Rows
pub mod NumberLaws
pub mod HeaderLaws
pub mod Streams
pub mod Whole
pub mod Ahead
pub mod Stand
pub mod Rooms
pub mod Answered
pub mod Begun
pub mod Once
pub mod OneRefusal
mod DataPorts
mod DataNames
