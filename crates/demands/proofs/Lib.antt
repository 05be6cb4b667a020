-- What the programs take from the definitions' theorems: of replies, of the lists that bytes hold, of what was written, of each call's table, and of calls of
-- `next` one after the other.
pub mod Replies
pub mod Lists
pub mod Answers
pub mod LayeredPages
pub mod Writing
pub mod Tables
pub mod Sequences
pub mod Judged
