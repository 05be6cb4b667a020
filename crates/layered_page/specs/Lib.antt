-- What the code of a layered page stands for.
pub mod Absent
pub mod Pages
