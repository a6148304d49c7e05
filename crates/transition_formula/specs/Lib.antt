pub use Rattle.items.specs.Gives
-- ---- what must be believed: the words of the clauses of public calls
pub mod Composition
pub mod Equating
pub mod Hiding
pub mod Loss
pub mod Meaning
pub mod Order
pub mod Posts
pub mod Renumbering
pub mod Rounds
pub mod Rows
pub mod Transition
-- ---- words of proofs and of private functions
pub mod Places
pub mod Forms
