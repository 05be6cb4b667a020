-- Laws of the packings that the functions' proofs, and those above, cite.
pub mod Width
pub mod Widths
pub mod Packings
pub mod Spare
