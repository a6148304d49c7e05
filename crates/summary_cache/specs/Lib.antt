-- What must be believed: the words of the clauses of a session.
pub mod Limits
pub mod Place
pub mod Accepted
pub mod Rules
pub mod Laws
pub mod Calls
pub mod Stated
pub mod Counted
pub mod Kept
pub mod Submitted
pub mod Answered
pub mod First
