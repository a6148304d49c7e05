-- computations with their notes apart
pub mod NotesApart
-- elements at places
pub mod Puts
-- loops
pub mod ListLoops
-- the kinds of groups
pub mod GroupKinds
-- what the procedures of a group call
pub mod BodyCalls
pub mod NextGroups
pub mod Ready
-- the plan
pub mod OnePlan
-- what is found, group after group
pub mod GroupFindings
-- assertions, and blocks
pub mod ChecksStand
pub mod AssertionParts
pub mod KnownBlocks
-- that nothing is left out
pub mod ReportCover
pub mod ReportParts
pub mod FoundReports
-- no notes beside the report
pub mod Quiet
