-- What the functions on values hand back.
pub mod Scaled
pub mod Reciprocal
pub mod Numbers
pub mod Passed
