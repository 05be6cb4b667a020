-- Edition 3's header rules as facts, and step 7 in a run.
pub mod Reached
