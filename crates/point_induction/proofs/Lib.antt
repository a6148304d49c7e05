-- ---- passages, one edge more
pub mod Passages
-- ---- what is kept is true: `kept_sayings_are_true`
pub mod Truth
-- ---- the code: marks of heads
pub mod HeadMarks
