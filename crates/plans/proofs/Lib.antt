-- The tests of the small check and of the planner in the definitions' words; a value's mark.
pub mod Checked
