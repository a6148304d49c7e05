-- What must be believed: which assertions are told without a question, and that every end of the
-- stated analysis covers its program.
pub mod Laws
