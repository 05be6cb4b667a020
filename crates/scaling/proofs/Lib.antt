-- Laws that the functions' proofs cite.
pub mod Guess
pub mod Extremes
pub mod Spread
pub mod Keep
pub mod Stored
pub mod Ranged
pub mod Kept
pub mod Part
