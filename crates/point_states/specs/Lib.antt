-- ---- what must be believed: the states of all points, as a computation
pub mod AllStates
-- ---- words of clauses that are private
pub mod Additions
