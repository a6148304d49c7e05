pub use Rattle.items.specs.Gives
pub use Rattle.posing.specs.Follows
pub use Rattle.posing.specs.Logs
pub use Rattle.posing.specs.Posing
pub use Rattle.transition_formula.specs.Meaning
pub use Rattle.transition_formula.specs.Transition
-- ---- what must be believed: the words that clauses of public calls cite

-- what is asked of the ends of formulas, and in which directions
pub mod Vocabulary
pub mod Directions
-- what is taken from an answer
pub mod Infeasibility
-- cases in order that hold of something; rows that no others entail; a case that is finished
pub mod Settle
pub mod Thin
pub mod Finish
-- by how much variables change; rows that bounds and relations give; one case in place of many
pub mod Changes
pub mod Bounds
pub mod Relations
pub mod Squash
-- what is kept
pub mod Laws
-- ---- words of proofs
pub mod Keys
pub mod Kept
pub mod Tables
