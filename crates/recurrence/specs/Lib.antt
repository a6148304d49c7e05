pub use Rattle.items.specs.Gives
pub use Rattle.closed_form.specs.ClosedRow
pub use Rattle.posing.specs.Posing
pub use Rattle.transition_formula.specs.Meaning
pub use Rattle.polyhedra.specs.Vocabulary
-- ---- what must be believed: the words that clauses of public calls cite

-- what holds of star, whatever the answers are, as long as they are true
pub mod Law
-- star: the identity, and a case of one and more turns
pub mod Star
-- its terms with their differences, and its progressions
pub mod Strata
pub mod Products
pub mod Progressions
-- ---- words of proofs
pub mod Words
