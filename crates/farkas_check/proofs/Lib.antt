-- What an answer that passes means: it is true over whole numbers, and the truth about rational
-- points.
pub mod Tight
-- Infeasible and Sup: sums of multiples of rows at a point, and the bounds that certificates give.
pub mod Farkas
-- Sums of multiples of rows by the parts of a list, and multipliers without a common divisor.
pub mod Totals
pub mod LowestMultipliers
mod Bounds
-- Stratum: ties make a relation vanish on a case, spots show that there are no others, and the
-- lines are a reduced basis.
mod Basis
pub mod Vanishing
pub mod Spots
mod Elimination
pub mod Differences
-- Points: ratios in lowest terms, the values that they give, and polynomials as sums over columns.
pub mod Lowest
pub mod PointValues
pub mod Equal
mod RatioLaws
mod RationalPoints
pub mod Spreads
-- The code: its walk over columns, its look-ups, and the order in which it makes sums.
pub mod Walks
mod Listing
mod Lookups
mod OrderedTerms
mod Sums
mod OwnColumns
mod Shortcuts
mod Halves
mod Pivots
mod Unknowns
