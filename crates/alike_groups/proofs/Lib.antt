-- ---- the code
-- The tests decide what they test.
pub mod TestTruth
-- Lists of statements and of expressions.
pub mod Lists
-- ---- what is found of alike groups
-- The procedures that alike statements call.
pub mod CalledAlike
-- A group is recursive where its members call members.
pub mod CallsWithin
pub mod Parts
