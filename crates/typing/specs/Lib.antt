-- What must be believed: the words of the clauses of public calls.
pub mod Specials
pub mod Scopes
pub mod Env
pub mod Terms
pub mod Calls
pub mod Lines
pub mod Texts
pub mod Elaborated
pub mod CallFaults
pub mod LineFaults
pub mod Faults
pub mod Operators
pub mod Elaborates
-- Words of proofs: how the scopes are kept.
pub mod InForce
