-- Laws of the boundary.
pub mod NoEdition
pub mod Layering
