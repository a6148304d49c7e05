-- ---- the laws of an evaluation
pub mod Whole
pub mod Cells
-- what comes of canonical leaves is canonical, whatever the answers
pub mod CanonicalEvaluations
-- the laws of checked trees
pub mod Trees
-- formulas between vocabularies, and runs along words
pub mod Between
pub mod Along
-- formulas of paths
pub mod Entries
-- ---- the evaluation of a plan
pub mod GoingOn
pub mod Growths
pub mod GrownCells
pub mod LogGains
pub mod SameByNumber
pub mod NumberedKeys
pub mod ReadyPlans
-- ---- each operation is ready where it stands
pub mod EliminationSteps
pub mod Stands
