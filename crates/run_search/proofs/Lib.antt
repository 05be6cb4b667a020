-- The order of values in their biased forms, and what is left of a search.
pub mod Ordered
pub mod Left
