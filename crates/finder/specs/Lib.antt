-- ---- what must be believed: the words that clauses of public calls cite

pub mod Found
pub mod Weights
