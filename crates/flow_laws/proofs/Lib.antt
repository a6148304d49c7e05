-- every end is true
pub mod TrueFlows
