pub use Rattle.items.specs.Gives
pub use Rattle.whole_numbers.specs.Divisors
pub use Rattle.linear_terms.specs.Expressions
pub use Rattle.farkas_check.specs.Tested
pub use Rattle.transition_formula.specs.Meaning
pub use Rattle.posing.specs.Follows
pub use Rattle.posing.specs.Posing
-- ---- what must be believed: the words that clauses of public calls cite

-- by how much a case changes a global, and what is asked about it
pub mod Changes
pub mod Questions
-- the question made least_kept, and what comes of it
pub mod Small
pub mod Costs
-- how far the change grows along a ray; what each answer says, and when a bound is met
pub mod Rays
pub mod Says
-- ---- words of private functions
pub mod Steps
