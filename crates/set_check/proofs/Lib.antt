-- The pass over the blocks, and the calls.
pub mod Turns
pub mod Walking
pub mod Calls
