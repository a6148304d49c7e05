-- What must be believed: the words that clauses of public calls cite.
pub mod Shapes
pub mod Numbers
pub mod Answers
pub mod Errors
pub mod Files
pub mod Edits
pub mod Inputs
pub mod Written
pub mod Replays
pub mod Sharing
pub mod Newlines
