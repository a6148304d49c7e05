-- ---- what must be believed: the words that clauses of public calls cite

-- the nodes ahead of a source, and the ways from it as a graph
pub mod Ways
-- what holds of the cells of ways
pub mod Claims
-- the laws of the definitions
pub mod Laws
-- ---- words of proofs
pub mod Parts
