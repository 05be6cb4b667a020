-- The layered answer by the correction's, the part by that answer, and the words that it tells of each column.
pub mod Layering
pub mod Words
