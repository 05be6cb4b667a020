-- The tests accept exactly the section of its values (Accepted); entries read, codes counted.
pub mod Codes
pub mod Entries
pub mod Accepted
