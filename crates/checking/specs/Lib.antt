-- The tests of an opened column.
pub mod Tests
