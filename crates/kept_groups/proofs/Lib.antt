-- What is kept of a group says the same of it, whichever way it came.
pub mod KeptParts
-- A group is alike to itself.
pub mod Itself
-- The parts of all groups.
pub mod PartAnswers
-- computations whose notes come with their value
pub mod Together
-- ---- how calls end
pub mod CallEnds
pub mod GroupCall
-- ---- groups that have come
pub mod SoFar
-- ---- the search for an alike group
pub mod AlikeSearch
-- ---- the loop over all groups
pub mod PlanLoop
