-- Laws of a page.
pub mod InTurn
pub mod Marking
pub mod Openings
pub mod Pages
pub mod Parts
pub mod Slots
