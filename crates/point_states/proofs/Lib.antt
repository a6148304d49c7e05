-- ---- points of graphs, and the formulas at them
pub mod PointPlaces
-- ---- states that are put behind others
pub mod AddedStates
-- ---- what all of them tell: `states-hold`
pub mod StatesOnChains
