-- ---- the laws of star
pub mod Whole
-- ---- rows stay canonical, whatever the answers: in order and settled, and of a star
pub mod CanonicalOrder
pub mod CanonicalStars
-- ---- it holds of every run
pub mod StarLaws
-- terms and progressions along a run
pub mod SolvedColumns
pub mod ProductGrowth
pub mod Along
pub mod StratumTerms
pub mod ProgressionRows
-- ---- the second case can be put in order
pub mod ColumnShapes
pub mod Within
pub mod NumberedColumns
pub mod KnownCoverage
-- ---- the calls
-- linear polynomials, and the columns of variables
pub mod Linear
pub mod RisingNumbers
-- computations part by part
pub mod Parts
-- ---- vocabularies of tests and benches
pub mod NamedVariables
