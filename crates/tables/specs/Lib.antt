-- A value at a place of a table, a table that holds values, and marks at the places of one.
pub mod Holds
pub mod Marks
