-- Laws of a reading block by block.
pub mod Ends
pub mod OneBlock
pub mod Passed
pub mod Replies
