-- ---- what must be believed
-- the report with what holds at points
pub mod Blocks
pub mod Again
pub mod Proof
-- what it claims of executions
pub mod Claims
-- ---- what parts are like
pub mod Parts
