-- ---- the walks of a graph are the executions: `returns_are_walks`, `checks_are_walks`,
-- `calls_are_walks`
pub mod Theorems
-- what a step of the machine does to a frame, and frames of a stack
pub mod Moves
pub mod Frames
-- what a statement does, and how it ends
pub mod Does
pub mod Fates
-- where the arcs of a body stand, and that each move of an activation is explained by one of them
pub mod Each
pub mod Places
pub mod EdgeSteps
pub mod Live
pub mod Activations
pub mod Walking
-- ---- what returns has a tree of calls: `returns_have_heights`, and induction on it:
-- `returns-by_height`
pub mod Heights
-- ---- the stack of an execution is a chain of activations: `stacks_are_chains`,
-- `failures_are_in_chains`
pub mod StackChain
-- ---- a program has one list of groups: `groups_are_determined`
pub mod OneList
-- ---- the groups of a program's procedures
-- lists of numbers, and tables of them
pub mod Within
pub mod Statements
pub mod Members
pub mod Reaching
pub mod Sieves
pub mod Tables
pub mod Chains
-- the search for strong components, step by step
pub mod SearchMarks
pub mod Entering
pub mod Joins
pub mod Joining
pub mod Leaving
pub mod Visiting
pub mod Searching
-- their order, and what is planned for it
pub mod Turning
pub mod Settling
pub mod Orders
pub mod Filling
pub mod GroupOrders
