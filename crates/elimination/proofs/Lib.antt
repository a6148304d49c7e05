-- A narrow question of rows or goals is calm, is not dead, and has few choices.
pub mod Narrowness
-- Which questions are narrow, told case by case.
pub mod NarrowCases
pub mod NarrowStrata
-- Room in a case: rows that some point does not meet with equality are clear together at one.
mod Interiors
-- Columns: how many a case has.
mod ColumnCounts
-- Tableaux of a frame with few columns and small numbers: their lines and columns are proportional
-- to small solutions.
mod Frames
mod Multiples
mod Tableaux
mod Counts
mod DoubleSums
-- Fewer equations than unknowns have a small solution that is not 0 (Siegel's lemma).
mod Solutions
mod Digits
mod Pigeons
-- Reduced bases: sizes of vectors; what a space and one more vector span; what rows span; the lines
-- of a basis; there is one.
pub mod Magnitudes
pub mod Extensions
pub mod RowSpans
pub mod Bases
pub mod Uniqueness
-- Null vectors of regular equations: one is small, and all are proportional; the equations as rows
-- of a question; the numerators of its point.
pub mod NullSystems
pub mod NullEquations
pub mod NullQuestions
pub mod NullVectors
-- Spots around an inner point: their values, and the multiples that read a polynomial's numbers
-- from them.
pub mod AroundSpots
pub mod AroundWeights
-- The basis of a kernel passes its test: relations that zeros tie, and sums of multiples of the
-- spots around inner points.
pub mod BasisFacts
pub mod BasisSteps
pub mod BasisTests
pub mod ZeroTies
pub mod FreeUnits
pub mod FreePlaces
pub mod FreeGroups
pub mod FreeSums
pub mod WeightSizes
-- Kernels: regular equations with one more; what stands at an unknown; numbers at chosen unknowns;
-- at most six have probes; relations stay reduced; the own relation of an unknown, and duals; a
-- stage with one unknown more.
pub mod Regular
pub mod Sides
pub mod ChosenNumbers
pub mod Few
pub mod ReducedRelations
pub mod OwnRelations
pub mod Steps
-- Inner points: numbers on which each of a few small lines is negative, and rows as such lines.
pub mod InnerTerms
pub mod InnerGoals
pub mod InnerCorners
pub mod InnerRatios
pub mod InnerPoints
pub mod InnerRooms
-- The basis of a stratum question of small numbers: what narrow gives, and inner points probe by
-- probe.
pub mod SmallStrata
