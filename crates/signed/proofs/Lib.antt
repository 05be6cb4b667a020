-- Laws of the biased form, and the bits of a signed number.
pub mod Signs
