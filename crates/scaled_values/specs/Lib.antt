-- What a section holds, and what its writing is handed.
pub mod Held
pub mod Storing
pub mod Slots
