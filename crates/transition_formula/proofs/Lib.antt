-- ---- a case put in order holds of what it held of
pub mod Ordering
pub mod NormalRows
pub mod Solutions
pub mod RenumberedCases
pub mod Truths
-- ---- sequence, choice and some of the posts
pub mod HiddenColumns
pub mod Meanings
pub mod Meeting
pub mod PostsAsEntries
pub mod Sequences
pub mod SomePosts
pub mod NotedErrors
pub mod Values
-- ---- which columns results have, and which formulas can be put in order
pub mod CarriedColumns
pub mod ColumnTests
pub mod Few
pub mod FewAuxiliaries
pub mod FittedFormulas
pub mod Fitting
pub mod KeptCases
pub mod Numbers
pub mod TidiedRows
-- ---- loops of the code
pub mod AtPlaces
pub mod Loops
pub mod Opposites
pub mod Ranges
pub mod Rounding
