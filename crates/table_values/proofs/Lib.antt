-- What the header rules of edition 4 say; each value of those that are all there.
pub mod Facts
