-- ---- code: lists without one element
mod Divisors
mod Lists
mod QuestionRows
-- ---- laws
mod Bounds
mod OverEntry
mod Wide
mod RayGrowth
mod Soundness
