-- What must be believed: the words of the clauses of public calls.
pub mod Limits
pub mod Bytes
pub mod Spellings
pub mod Kinds
pub mod Pieces
pub mod Tokens
pub mod Refusals
pub mod Found
pub mod Laws
-- Words of proofs: what the scanner keeps.
pub mod Scanned
