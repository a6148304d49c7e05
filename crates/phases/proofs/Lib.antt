-- ---- the laws of phases
pub mod Whole
-- star along the facets of a hull
pub mod FacetStars
-- those of repetitions by any rule
pub mod Repetitions
-- the halves of a split
pub mod SplitHalves
-- turns of one half, and then of the other
pub mod Chains
-- no turn of the second half ends in the first
pub mod Exclusions
-- turns that begin where an inequality is true
pub mod BodiesWhere
-- the inequalities of a body
pub mod SplitPolynomials
-- ---- what settled cases keep
pub mod SettledRoom
-- rows stay canonical, whatever the answers
pub mod CanonicalForms
