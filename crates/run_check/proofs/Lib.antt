-- The tests accept exactly the section of its values (Accepted), and the laws behind it and behind the code.
pub mod Divisor
pub mod OneRun
pub mod Directory
pub mod Shape
pub mod Sound
pub mod Complete
pub mod Accepted
pub mod Turns
pub mod Ran
pub mod Gone
