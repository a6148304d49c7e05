-- ---- what is kept, whatever true answers are given
pub mod SettleLaws
pub mod ThinLaws
pub mod FinishLaws
pub mod SquashLaws
pub mod FitLaws
-- how many auxiliaries are left of a case in order
pub mod OwnPosts
-- ---- bounds and relations
pub mod Turns
pub mod RunBounds
pub mod RelationTerms
pub mod RowShapes
pub mod Rows
pub mod RelationRows
-- ---- directions
pub mod DirectionShapes
pub mod DirectionSets
pub mod Coverage
-- ---- steps of calls
pub mod Lists
pub mod Objectives
pub mod GoalObjectives
pub mod PutIn
pub mod Same
pub mod Places
pub mod Results
pub mod ChangeTables
pub mod ModifiedVariables
