pub use Rattle.items.specs.Gives
pub use Rattle.whole_numbers.specs.Divisors
pub use Rattle.whole_numbers.specs.Fits
-- ---- what must be believed: the words of the clauses of public calls
pub mod Auxiliaries
pub mod Col
pub mod Equality
pub mod Expressions
pub mod Mono
pub mod MonoOrder
pub mod Operations
pub mod Polynomial
pub mod Replacement
pub mod Row
pub mod TermError
pub mod Texts
pub mod Value
-- ---- words of proofs and of private functions
pub mod Lookup
pub mod MonoFields
