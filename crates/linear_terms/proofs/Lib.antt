-- ---- what operations and expressions are worth
pub mod Values
pub mod Worth
-- ---- normal forms, terms in print order, and which faults there are
pub mod Normals
pub mod Canonical
pub mod Faults
-- ---- the columns of results, and new numbers for auxiliaries
pub mod Columns
pub mod Numbering
-- ---- equality and order
pub mod Equal
pub mod Order
pub mod Placements
-- ---- loops of the code
pub mod Lookups
pub mod Merge
pub mod Steps
