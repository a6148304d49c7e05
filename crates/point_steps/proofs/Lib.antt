-- ---- one case after another
pub mod Carrying
-- ---- states
pub mod PointColumns
pub mod StateFormulas
pub mod Making
pub mod OnChains
-- ---- steps
pub mod StepFormulas
pub mod HeadPlaces
pub mod StepOuts
pub mod OutFits
pub mod Loops
pub mod StepLaws
