-- Runs laid down one after the other.
pub mod Laid
