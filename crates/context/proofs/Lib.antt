-- ---- entries
pub mod EntryWalks
pub mod WaysFit
pub mod EntryGraph
pub mod CallLeaves
pub mod CallEdges
pub mod Ways
pub mod Loops
-- ---- where an assertion stands
pub mod AssertionPlaces
pub mod Soundness
pub mod PlaceColumns
pub mod CheckPlaces
-- ---- the way to an assertion
pub mod WaysToAssertions
pub mod FurtherPosts
pub mod Few
-- ---- the verdicts on cases
pub mod GoodAnswers
pub mod SecondQuestions
pub mod CaseVerdicts
