pub use Rattle.items.specs.Gives
pub use Rattle.posing.specs.Posing
pub use Rattle.posing.specs.Follows
pub use Rattle.proc_summary.specs.Flow
-- ---- what must be believed: the words that clauses of public calls cite

-- the state of a point
pub mod States
-- the ways out of it, and its steps
pub mod Outs
pub mod Steps
-- what is asked of states and ways, and what states and steps say of executions
pub mod Claims
-- ---- words of proofs
pub mod Parts
