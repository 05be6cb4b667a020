-- The block that holds an ordinal, and the place with an index.
pub mod Held
