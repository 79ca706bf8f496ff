pub mod Lists
pub mod Rows
pub mod Graph
pub mod Search
pub mod Laws
pub mod Reach
pub mod Recurrent
pub mod Components
