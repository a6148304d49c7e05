-- ---- what must be believed
pub mod Counters
pub mod Divisors
pub mod Dot
pub mod Fits
