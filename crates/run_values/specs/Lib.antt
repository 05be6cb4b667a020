-- The code's summary as the definitions' own, and what its functions hand on.
pub mod Summaries
