mod PickLaws
mod InputLaws
mod TextLaws
