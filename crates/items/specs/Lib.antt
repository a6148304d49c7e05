-- ---- what must be believed
pub mod formers
pub mod Gives
-- ---- words of tests
pub mod Examples
