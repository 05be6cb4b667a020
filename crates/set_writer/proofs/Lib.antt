-- The missing places by spans (Spans), one block (Blocks), the blocks and the writer's answer (Whole).
pub mod Spans
pub mod Blocks
pub mod Whole
