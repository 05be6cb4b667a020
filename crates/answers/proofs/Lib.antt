-- What is proved of the answers' types: that 5 stays unused, and that a judgement is known by its numbers.
pub mod Retired
pub mod Judgements
pub mod PassedOn
