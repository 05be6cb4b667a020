-- What the code's reading stands for.
pub mod Blocks
