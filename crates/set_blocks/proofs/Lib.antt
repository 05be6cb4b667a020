-- A block's steps, as the code takes them.
pub mod Steps
