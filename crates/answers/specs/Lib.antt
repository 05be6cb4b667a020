-- What the code's answers say, in the numbers and values of the documents, and in the words of the C boundary.
pub mod Replies
pub mod Words
