-- The code's packings as the definitions' own, and what the code asks of each.
pub mod Packings
