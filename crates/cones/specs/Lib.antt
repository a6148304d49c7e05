-- ---- what must be believed: the words of the clauses of public calls
pub mod Vectors
pub mod Cones
pub mod Refusal
pub mod Tangents
pub mod Split
pub mod InBits
-- ---- the laws and their words
pub mod Spans
pub mod Laws
