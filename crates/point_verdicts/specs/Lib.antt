pub use Rattle.items.specs.Gives
pub use Rattle.posing.specs.Posing
pub use Rattle.posing.specs.Follows
-- ---- what must be believed: the words that clauses of public calls cite

-- what is asked about an assertion
pub mod Exclusions
-- what is asked for that, and what is known of executions
pub mod Claims
-- ---- words of proofs
pub mod Parts
