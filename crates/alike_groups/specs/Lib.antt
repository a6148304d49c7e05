-- ---- what must be believed
pub mod Groups
pub mod Parts
-- ---- words of private clauses
pub mod Tests
