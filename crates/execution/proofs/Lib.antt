-- ---- the laws of `specs/Laws`
pub mod Joining
pub mod Determinism
pub mod Stack
pub mod Straight
pub mod Widths
-- ---- executions by hand
pub mod Examples
-- ---- the chosen execution
pub mod Stops
pub mod ChosenExecutions
-- ---- the interpreter
pub mod Tasks
pub mod Numbers
