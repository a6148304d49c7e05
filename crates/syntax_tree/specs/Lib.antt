-- What must be believed: the words of the clauses of public calls.
pub mod Limits
pub mod Name
pub mod Term
pub mod Code
pub mod SourceExpr
pub mod SourceLine
pub mod SourceOperators
pub mod Value
pub mod Evaluation
pub mod Cases
pub mod Nodes
pub mod WellFormed
