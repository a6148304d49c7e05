-- ---- what must be believed: the words of the clauses of public calls
pub mod ClosedRow
pub mod Differences
pub mod Progressions
