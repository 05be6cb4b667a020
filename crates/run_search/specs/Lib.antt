-- What a search says.
pub mod Sought
