-- ---- what must be believed
-- flow graphs, their walks, and what these are of executions
pub mod FlowGraph
pub mod Plain
pub mod Walks
pub mod Laws
pub mod Pending
pub mod Stack
pub mod Heights
-- the groups of a program's procedures
pub mod Groups
-- ---- words of proofs
pub mod Numbers
pub mod Reaching
pub mod Search
pub mod Components
pub mod Turns
pub mod Plans
