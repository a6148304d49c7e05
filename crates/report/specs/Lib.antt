-- What must be believed: the text of a report, what it claims, and when that is true; the text of
-- the bounds on a global's change, and that of rows at points.
pub mod Text
pub mod Claims
pub mod Costs
pub mod Points
-- Words of clauses that are private.
pub mod Appends
