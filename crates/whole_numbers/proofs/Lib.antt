-- ---- the laws of the whole numbers
pub mod Ring
-- ---- the greatest common divisor, and quotients by a positive number
pub mod CommonDivisors
pub mod Quotients
-- ---- products that need no test
pub mod Short
