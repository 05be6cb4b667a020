-- What the reading promises on the way.
pub mod Answered
