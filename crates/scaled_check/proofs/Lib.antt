-- The value section's tests accept exactly the section of its values (Accepted), and the laws behind it and behind the code.
pub mod Tested
pub mod Accepted
pub mod Turns
