-- ---- what must be believed
-- the chosen execution on given values, its trace, the text of a trace, and laws that tie them to
-- the machine
pub mod Chosen
pub mod TraceText
pub mod Laws
-- ---- words of proofs
pub mod Follow
pub mod Appends
