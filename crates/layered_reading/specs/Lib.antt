-- What the code's merge stands for.
pub mod Turns
pub mod Runs
pub mod Parts
pub mod Buffers
