-- ---- what must be believed
-- the table of rows, and what it says of executions
pub mod Table
pub mod Chains
pub mod Sayings
-- steps, and what they keep
pub mod Steps
pub mod Closed
-- rounds of questions
pub mod Rounds
-- what rounds are made of
pub mod Source
-- the laws
pub mod Laws
-- ---- words of proofs
pub mod Parts
