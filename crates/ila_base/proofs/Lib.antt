pub mod ComparisonLaws
pub mod Filed
pub mod NumeralLaws
pub mod PlaceLaws
pub mod Taken
pub mod TextLaws
pub mod Written
