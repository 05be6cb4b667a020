-- What is proved about a set's definitions: Demands.antt has the theorems, Faults.antt what its refusals say of the bytes, exactly, Lines.antt document 02's
-- lines on large blocks; the others lead there.
pub mod Missing
pub mod Data
pub mod ByKind
pub mod Inside
pub mod Whole
pub mod Demands
pub mod Stops
pub mod Faults
pub mod Lines
