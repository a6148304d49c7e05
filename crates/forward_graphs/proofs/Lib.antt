-- ---- the laws of an evaluation
pub mod Whole
pub mod CellLaws
pub mod StepLaws
-- formulas between vocabularies
pub mod Between
-- numbers in the order of nodes
pub mod Groups
