-- ---- what must be believed
-- the machine, its steps and its executions
pub mod Machine
pub mod Step
pub mod Execution
-- the chosen execution, and the configurations that it comes to
pub mod Chosen
pub mod Runnable
pub mod Stops
-- laws that show what was meant, and executions by hand
pub mod Laws
pub mod Examples
-- which configuration an interpreter in memory is
pub mod Interpreter
