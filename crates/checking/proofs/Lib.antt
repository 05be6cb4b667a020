-- The tests of an opened column accept exactly the columns (Taken); what each step of the code finds (Steps).
pub mod Taken
pub mod Steps
pub mod Bare
