-- ---- the subject of a procedure, its walks, and the nodes that count
pub mod Graphs
pub mod Flows
-- ---- summaries
pub mod ExitSummaries
-- ---- procedures that nothing tells apart
pub mod Alike
pub mod CratesBelow
