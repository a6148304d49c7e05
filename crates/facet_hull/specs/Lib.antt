-- ---- what must be believed: the words of the clauses of public calls
pub mod Changes
pub mod Hull
pub mod Images
pub mod Normals
pub mod InBits
pub mod Facets
-- ---- the laws and their words
pub mod Laws
pub mod Spots
