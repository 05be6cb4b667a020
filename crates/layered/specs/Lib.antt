-- What the code's layered answers stand for.
pub mod Answers
