-- ---- the laws of the definitions: nodes ahead of a source, and ranks of heads
pub mod AheadNodes
pub mod HeadRanks
-- ---- the graph of ways leads forward, and passages are its runs
pub mod EdgeActs
pub mod ForwardWays
pub mod WayRuns
-- ---- the code: marks of nodes, and what is made of chosen edges
pub mod NodeMarks
pub mod Choices
pub mod WayGraphs
