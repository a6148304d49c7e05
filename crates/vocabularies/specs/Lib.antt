pub use Rattle.items.specs.Gives
pub use Rattle.polyhedra.specs.Vocabulary
pub use Rattle.syntax_tree.specs.WellFormed
-- ---- what must be believed: the words that clauses of public calls cite

-- the procedures of a program by their numbers
pub mod Procs
-- the linear terms that a procedure compares
pub mod Harvest
-- the vocabularies of a procedure's states, of its summary, and of where a program starts
pub mod Ends
-- ---- words of proofs
pub mod Room
