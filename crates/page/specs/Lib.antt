pub mod Openings
pub mod Marks
pub mod Parts
pub mod Placed
pub mod Runs
