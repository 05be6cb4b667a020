-- A run as a section of its own.
pub mod Part
pub mod Rest
