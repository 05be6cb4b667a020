-- Laws of the ones of longs.
pub mod Ones
