-- Laws of what an accepted column decodes to, and of a reading's answers.
pub mod Decoded
pub mod Answers
