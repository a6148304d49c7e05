pub use Rattle.items.specs.Gives
pub use Rattle.posing.specs.Posing
pub use Rattle.posing.specs.Follows
-- ---- what must be believed: the words that clauses of public calls cite

-- the groups and how each is summed up
pub mod Plan
-- computations with notes of their own, what is found of a group, of all groups, and of assertions
pub mod Apart
pub mod Parts
pub mod Found
pub mod Judging
-- what is found, and what that says of executions
pub mod Claims
-- the whole analysis
pub mod Analysis
