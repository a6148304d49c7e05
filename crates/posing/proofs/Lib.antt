-- Whole calls: under listed answers, and with parts that were kept.
pub mod ComposedCalls
-- The steps of one call: `Steps` leaves out the arguments that facts show.
pub mod Following
pub mod Steps
-- Computations apart from calls: paths through them, and properties of all their ends.
pub mod Paths
-- Properties of all ends under answers that are good, whatever that is.
pub mod UnderAnswers
