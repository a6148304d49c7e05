-- ---- what must be believed: the words of the clauses of public calls
pub mod Limits
pub mod Products
pub mod Laws
-- ---- words of proofs and of private functions
pub mod Offers
