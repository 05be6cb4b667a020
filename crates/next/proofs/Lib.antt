-- Laws of the next candidate.
pub mod OneBlock
pub mod Turns
pub mod Passed
pub mod Answers
