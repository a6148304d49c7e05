pub use Rattle.items.specs.Gives
pub use Rattle.path_expr.specs.Elimination
pub use Rattle.path_expr.specs.Operations
pub use Rattle.posing.specs.Posing
pub use Rattle.posing.specs.Follows
pub use Rattle.transition_formula.specs.Meaning
pub use Rattle.polyhedra.specs.Vocabulary
-- ---- what must be believed: the words that clauses of public calls cite

-- the graph, and the ends of its paths
pub mod Graph
-- its evaluation: a formula for each operation
pub mod Evaluation
-- what holds of it, whatever the answers are, as long as they are true
pub mod Law
-- what operations ask of their operands
pub mod Operands
-- trees of evaluated steps, what is so of a checked one, what it says, and those that an evaluation
-- makes
pub mod Tree
pub mod Checked
pub mod TreeLaw
pub mod Grown
-- its operations by numbers, and their evaluation
pub mod Plan
pub mod ByNumber
-- ---- words of proofs
pub mod UnderWay
pub mod Growing
pub mod Ready
