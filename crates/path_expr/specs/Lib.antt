-- ---- what must be believed
-- path expressions and the walks that they stand for
pub mod PathExpr
pub mod Walks
pub mod Path
-- the stated elimination, its operations, and what an evaluation does
pub mod Elimination
pub mod Operations
pub use Rattle.whole_numbers.specs.Counters
pub mod Algebra
pub mod Runs
pub mod Holds
-- ---- words of proofs
pub mod Table
pub mod Numbers
pub mod Sweeps
