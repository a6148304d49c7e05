-- What must be believed: the words of the clauses of `run`.
pub mod Limits
pub mod Words
pub mod Input
pub mod Output
pub mod Status
pub mod Refused
pub mod Stated
pub mod Within
pub mod Told
pub mod Analyse
pub mod Prove
pub mod Certify
pub mod Check
pub mod Edit
pub mod Renew
pub mod Replay
pub mod Sample
pub mod Cost
pub mod Replies
pub mod Sentences
pub mod Bounded
-- reports that name no limit
pub mod Tame
-- ---- words of proofs and of private functions
pub mod Submitted
pub mod Editing
pub mod Posts
pub mod Commands
