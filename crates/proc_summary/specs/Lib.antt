pub use Rattle.items.specs.Gives
pub use Rattle.posing.specs.Posing
pub use Rattle.posing.specs.Follows
pub use Rattle.leaf_cases.specs.Conditions
pub use Rattle.leaf_cases.specs.Summaries
pub use Rattle.checked_tree.specs.Evaluation
-- ---- what must be believed: the words that clauses of public calls cite

-- what a flow is made from
pub mod Subject
-- the flow, and the summary
pub mod Flow
pub mod Summary
-- what they say of executions
pub mod Claims
-- procedures that nothing in a flow tells apart
pub mod Alike
-- ---- words of proofs

-- what the code makes a subject from
pub mod Parts
