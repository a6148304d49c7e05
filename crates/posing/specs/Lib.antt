pub use Rattle.items.specs.Gives
pub use Rattle.whole_numbers.specs.Counters
pub use Rattle.farkas_check.specs.Asking
pub use Rattle.farkas_check.specs.Meaning
pub use Rattle.farkas_check.specs.Refusals
pub use Rattle.farkas_check.specs.Tested
-- ---- what must be believed: the words that clauses of public calls cite

-- computations that ask questions, and how far answers lead one
pub mod Posing
pub mod Follows
-- what a log gains, and an oracle's error as one of a call
pub mod Logs
pub mod Errors
-- listed answers, and answers that were kept
pub mod Replay
