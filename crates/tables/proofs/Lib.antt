-- A value's place among entries that ascend, by halving; the order of signed numbers by their biased forms; a value put in at its place.
pub mod Placed
pub mod PutIn
pub mod Marks
