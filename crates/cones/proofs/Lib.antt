-- ---- numbers and vectors
pub mod Numbers
pub mod Signs
pub mod Dots
pub mod Widths
-- ---- what vectors span, and what is left of it where lines are made 0
pub mod Spanning
pub mod Clears
pub mod Several
-- ---- what the search finds
pub mod Searches
pub mod Pushing
pub mod Flats
pub mod Hulls
-- ---- flat vectors and the rest
pub mod Splitting
pub mod PivotSearch
pub mod Units
-- ---- what is found has no common divisor, and the lines on which it is 0 leave nothing else
pub mod Primitive
pub mod Extreme
pub mod Proportional
-- ---- the directions from a point
pub mod Tangency
-- ---- steps of 128 bits
pub mod Bits
pub mod Making
