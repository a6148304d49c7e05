-- ---- steps of 128 bits: what they make, and how great it is
mod MadeSteps
mod Magnitudes
-- ---- the search, and how great its vectors grow at most
mod KeptSearch
mod Growth
-- ---- the search over lines of four columns
mod Minors
mod FourColumns
-- ---- the cone of a case, its points and rays, and the normals
mod ConeImages
-- ---- small bodies
mod SmallChanges
mod SmallBodies
-- ---- solutions of a frame that own columns: the tableau that they are, how great they are in a calm
-- frame, and a column made 0 on all of them but one
mod Owners
mod Bounded
mod Clearings
mod FrameSearch
-- ---- the frame of a case's rows: vectors at its own columns, the first basis, and what owns columns
-- as spots
mod OwnColumns
mod RowBasis
mod CaseSpots
-- ---- calm bodies: directions between spots, the points and rays of a case, and the normals
mod SpotDirections
mod CalmCases
mod CalmBodies
