-- Signed numbers in a form without sign.
pub mod Sign
