-- Opening by the question's reader, and what is left of it.
pub mod Asked
