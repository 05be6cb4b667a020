-- The laws of header numbers that the code rests on.
pub mod Written
pub mod Fast
pub mod Steps
