-- ---- what must be believed: the words that clauses of public calls cite

pub mod Answers
-- what rows span, and their reduced row echelon form
pub mod Echelon
-- ---- words of private functions: a case of a narrow question, and the room that it leaves

pub mod Narrow
pub mod Rooms
-- differences at the probes of a case, the relations that are 0 there, and spots around inner
-- points
pub mod Around
pub mod BasisParts
pub mod Probes
-- equations of lines of numbers, and their solutions
pub mod Equations
-- the spots around an inner point, one by one
pub mod Moves
-- the steps that find a kernel
pub mod Stages
-- whole numbers that make each of a few lines negative
pub mod Descents
-- the basis of a question of small numbers
pub mod SmallStrata
-- the spaces that small rows span
pub mod Spaces
