pub use Rattle.items.specs.Gives
pub use Rattle.posing.specs.Posing
pub use Rattle.posing.specs.Follows
pub use Rattle.leaf_cases.specs.Conditions
pub use Rattle.leaf_cases.specs.Summaries
-- ---- what must be believed: the words that clauses of public calls cite

-- the members of a group and the calls between them
pub mod Members
-- formulas of pairs of entry and exit, and the closure of a table
pub mod Pairs
pub mod Closure
-- rows that may hold of all activations, and rounds that drop others
pub mod Candidates
-- the summaries, and what they say of executions
pub mod Close
pub mod Claims
pub mod Laws
-- groups that nothing in their summaries tells apart
pub mod Alike
-- ---- words of proofs
pub mod Reached
pub mod Shapes
pub mod Between
pub mod Groups
