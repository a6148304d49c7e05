-- What must be believed: what is kept of a program's groups, how the groups of the next program come
-- by it, and what a call that goes over them did.
pub mod Kept
pub mod Coming
pub mod Outcomes
-- ---- words of private clauses
pub mod OneGroup
