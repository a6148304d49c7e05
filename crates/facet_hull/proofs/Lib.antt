-- ---- rows over many turns, and the frame of two spots
mod Turns
mod TwoSpots
-- ---- rational points, vectors of a case's cone, and what the search finds there
mod CasePoints
pub mod Wide
mod Generators
mod Reach
mod Bodies
-- ---- the normals
mod Origins
pub mod Exact
mod Equations
-- ---- the normals are the hull whole: ascending and reduced, and each facet is needed
pub mod Ascending
pub mod Echelon
pub mod Normalised
pub mod Outside
pub mod Needed
pub mod Whole
-- ---- the code: how many numbers lines and points have
pub mod Lengths
-- ---- the code: steps of 128 bits, and what they make
pub mod Bits
pub mod Making
-- ---- outcomes, and normals as polynomials
mod Outcomes
mod Linear
pub mod NormalDirections
