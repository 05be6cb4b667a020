-- What is proved of the merge.
pub mod Turns
pub mod Growing
pub mod Holding
pub mod Merging
pub mod Ending
pub mod Fills
pub mod Laws
pub mod Turning
pub mod Steps
pub mod Looping
pub mod Calling
