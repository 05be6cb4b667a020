-- The demands' own terms, and the tables of the calls of document 02.
pub mod Terms
pub mod LayeredTerms
pub mod Tables
