-- assertions that stand in no graph
pub mod DeadAssertions
-- ---- the stated analysis covers its program
pub mod GroupSummaries
pub mod GroupParts
pub mod AnalysisCover
pub mod Points
