-- ---- tests of all elements of a list, which end at the first that fails
pub mod Every
-- ---- the code: what it makes of a case
pub mod AskedRows
pub mod FailingCases
pub mod Assertions
-- ---- what an exclusion tells, and where an execution that fails comes from
pub mod Refutations
pub mod Exclusions
pub mod FailingSteps
