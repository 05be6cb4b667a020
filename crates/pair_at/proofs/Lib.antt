-- Halving, the number at an entry, the ones of longs, the place in a block, and the steps from an entry.
pub mod Halved
pub mod Numbers
pub mod BitAfter
pub mod InBlock
pub mod FromEntry
pub mod Answers
