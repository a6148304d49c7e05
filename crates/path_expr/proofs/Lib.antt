-- ---- the paths of an expression are the walks of the graph
pub mod Turns
pub mod Language
pub mod CellWalks
pub mod WayWalks
-- ---- what an evaluation does, and what is known of items
pub mod RunLemmas
pub mod HoldLemmas
-- ---- the table, and each part of the elimination
pub mod TableLemmas
pub mod FirstLemmas
pub mod SweepLemmas
pub mod EliminationLemmas
pub mod ArrivalLemmas
pub mod ReadyWays
pub mod ReachLemmas
