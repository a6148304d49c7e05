-- ---- what must be believed
-- the cases of expressions
pub use Rattle.items.specs.Gives
pub mod Listed
pub mod Claims
pub mod Division
pub mod Steps
pub mod Expression
pub mod Guard
-- the formulas of edges, what is known of calls, and what it is for known formulas to be met
pub mod Edges
pub mod Conditions
pub mod Summaries
