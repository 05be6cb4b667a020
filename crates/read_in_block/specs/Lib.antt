-- The pairs of one block.
pub mod Parts
pub mod Stretch
pub mod Rows
