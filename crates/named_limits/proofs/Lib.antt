-- paths taken apart, and questions on them
pub mod Cuts
pub mod PathsApart
pub mod LeadingQuestions
-- what is owed and told
pub mod Balance
-- computations that tell each limit
pub mod FittingLimits
pub mod Stars
pub mod Rounds
pub mod Verdicts
-- the parts of an analysis
pub mod NewGroups
pub mod NotePlaces
pub mod Shares
-- reports without a limit
pub mod Limitless
