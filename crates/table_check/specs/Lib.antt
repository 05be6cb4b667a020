-- The tests of a value section of edition 4.
pub mod ValuesOk
