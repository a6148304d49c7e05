-- Main theorems: a text is accepted once and as a well-formed program, its assertions ascend, and
-- its calls are statements.
pub mod Complete
pub mod Shapes
pub mod AscendingPlaces
pub mod Calls
pub mod SameTrees
-- No execution knows the rule.
pub mod Rules
-- What a fault of each stage says of a text.
pub mod Refusals
-- Places of a text, one after another.
pub mod Places
-- What the stated analysis of a text came to.
pub mod Statements
-- The answers of parts, one after another.
pub mod PartAnswers
