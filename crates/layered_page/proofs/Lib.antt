-- Laws of a layered page.
pub mod Marked
pub mod Gathered
pub mod Lost
pub mod Answered
pub mod Parts
pub mod Calls
