-- Laws of the pairs of one block.
pub mod Parts
pub mod Places
pub mod Entries
pub mod Strides
pub mod Longs
pub mod Rows
pub mod BitRows
pub mod LongIds
pub mod Lowest
pub mod HeldBits
pub mod Ahead
pub mod LongRows
pub mod OneLong
pub mod Left
pub mod Entry
