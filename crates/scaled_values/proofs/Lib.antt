-- The header rules as facts, and laws that the functions' proofs cite.
pub mod Facts
pub mod Store
pub mod Held
pub mod WholeSlot
