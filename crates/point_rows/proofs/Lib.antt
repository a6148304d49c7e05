-- ---- rows that are read say of posts what the rows say of columns
pub mod RowMeanings
-- ---- their columns, and those of contraries
pub mod ReadColumns
pub mod ContraryColumns
-- ---- known formulas with rows at exits: where they stand, their columns, and what they say
pub mod ExitTables
pub mod ExitColumns
pub mod ExitMeanings
