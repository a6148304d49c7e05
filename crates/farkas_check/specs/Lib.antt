pub use Rattle.items.specs.Gives
pub use Rattle.whole_numbers.specs.Counters
pub use Rattle.whole_numbers.specs.Divisors
pub use Rattle.whole_numbers.specs.Fits
pub use Rattle.linear_terms.specs.Mono
pub use Rattle.linear_terms.specs.Polynomial
pub use Rattle.linear_terms.specs.Row
pub use Rattle.linear_terms.specs.Value
-- ---- what must be believed: the words that clauses of public calls cite

-- what answers mean, over rational points and over whole numbers
pub mod Rational
pub mod Meaning
pub mod Laws
-- the test of an answer, part by part
pub mod Ratios
pub mod Columns
pub mod Multiples
pub mod Points
pub mod Parts
pub mod Relations
pub mod Stratum
pub mod Tested
-- which questions are dead, slim, narrow, calm and tame, by their rows and numbers alone
pub mod Sizes
pub mod Frames
pub mod Calm
-- what types keep, and what an oracle says of itself
pub mod Kept
pub mod Refusals
pub mod Asking
-- ---- words of proofs: the steps that the code's loops take

pub mod Walk
pub mod Listing
pub mod Steps
