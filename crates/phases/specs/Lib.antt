pub use Rattle.items.specs.Gives
pub use Rattle.posing.specs.Posing
pub use Rattle.transition_formula.specs.Meaning
pub use Rattle.polyhedra.specs.Vocabulary
pub use Rattle.recurrence.specs.Star
-- ---- what must be believed: the words that clauses of public calls cite

-- the numbers
pub mod Limits
-- which rule has phases, and which facets
pub mod Rules
-- what holds of phases, whatever the answers are, as long as they are true
pub mod Law
-- one phase and then another
pub mod Phases
-- star along the facets of a hull
pub mod FacetStar
-- phases or star, by the rule
pub mod Repetition
-- the inequalities by which a body may split
pub mod Splits
-- ---- words of proofs
pub mod Words
