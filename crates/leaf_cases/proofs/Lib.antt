-- ---- the formula of an edge holds exactly where the edge leads, and known formulas that are met
-- tell of executions
pub mod ReadyCalls
pub mod Leaves
pub mod MetCalls
pub mod EdgeMeanings
pub mod EdgeFits
pub mod Arguments
pub mod Graphs
-- ---- what the cases of an expression mean
pub mod Guards
pub mod Expressions
pub mod CaseMeanings
pub mod StepCases
pub mod StepClaims
pub mod StepsTell
pub mod Together
pub mod Quotients
-- ---- how many cases and auxiliaries there are, and which columns they have
pub mod Counts
pub mod Ready
pub mod CaseColumns
pub mod AuxiliaryMoves
pub mod Shapes
pub mod StatedPolys
-- ---- rows of edges are canonical
pub mod CanonicalLeaves
