-- ---- what holds where answers pass and nothing is noted
mod Quiet
mod Losses
-- ---- finishing
mod Finishing
-- ---- the rows of normals
mod PointValues
mod NormalRows
-- ---- star
mod SecondCase
mod AllVariables
mod Completeness
