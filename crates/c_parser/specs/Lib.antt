-- What must be believed: the words of the clauses of public calls.
pub mod Limits
pub mod Spots
pub mod Operators
pub mod Expressions
pub mod Lines
pub mod Declarations
pub mod SourceItem
pub mod Reads
pub mod Profile
pub mod Refusals
pub mod Laws
-- Words of proofs: what each function of the parser comes to.
pub mod Repeat
pub mod Descent
pub mod Statements
pub mod Parts
pub mod Texts
