-- An entry, and the codes, written.
pub mod Written
