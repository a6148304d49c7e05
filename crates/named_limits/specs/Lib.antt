pub use Rattle.posing.specs.Posing
-- ---- what must be believed: the words that clauses of public calls cite

-- limits among answers, in notes and in reports
pub mod Limits
pub mod Reported
-- where answers lead a computation, and which questions they answered
pub mod Leading
-- the limits of a report are those of the answers, part by part
pub mod Named
pub mod Laws
