pub use Rattle.items.specs.Gives
pub use Rattle.posing.specs.Posing
pub use Rattle.posing.specs.Follows
pub use Rattle.proc_summary.specs.Flow
-- ---- what must be believed: the words that clauses of public calls cite

-- the verdict on an assertion
pub mod Verdicts
-- what is asked once more, with products of rows
pub mod SecondQuestions
-- what is known of it
pub mod Judging
-- what entries and verdicts say of executions from `main`
pub mod Claims
-- where an assertion stands, and the formulas that lead there
pub mod Ends
-- an assertion that no state fails never fails
pub mod Laws
-- ---- words of proofs

-- the graph of entries, and what is made of it
pub mod Entries
-- what the code makes of it, and what it asks for that
pub mod Made
pub mod Callers
