-- The tests of a value section of edition 3.
pub mod RunsOk
