-- What the code's steps over blocks stand for.
pub mod Blocks
