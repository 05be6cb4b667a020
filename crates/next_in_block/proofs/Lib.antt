-- Laws of the first place.
pub mod Run
pub mod Entries
pub mod Trailing
pub mod Longs
pub mod OfKind
