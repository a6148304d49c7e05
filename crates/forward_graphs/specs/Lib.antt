pub use Rattle.path_expr.specs.Walks
pub use Rattle.posing.specs.Posing
pub use Rattle.posing.specs.Follows
pub use Rattle.transition_formula.specs.Meaning
pub use Rattle.polyhedra.specs.Laws
-- ---- what must be believed: the words that clauses of public calls cite

-- the graph, and the steps between its nodes
pub mod Graph
-- numbers in the order of nodes
pub mod Order
-- formulas of at most 64 cases
pub mod Within
-- the evaluation of the graph: a step for each pair of ends, and a cell for each node
pub mod Evaluation
-- what holds of it, whatever the answers are, as long as they are true
pub mod Law
-- ---- words of proofs
pub mod Placing
pub mod UnderWay
