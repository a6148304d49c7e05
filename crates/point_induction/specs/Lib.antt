-- ---- what must be believed
-- points and passages, and what is kept from point to point
pub mod Points
pub mod Induction
-- the heads of a graph that was made
pub mod Heads
