-- ---- stated answers: `>>=`, its inversion, and what a `?` leaves
pub mod Gives
-- ---- lists of which each element has a property
pub mod Each
