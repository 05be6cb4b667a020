-- Laws that the functions' proofs cite.
pub mod Words
pub mod Stream
