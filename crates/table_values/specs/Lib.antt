-- Where a code stands; whether a table saves bytes, told from the table and n alone.
pub mod Codes
pub mod Saves
