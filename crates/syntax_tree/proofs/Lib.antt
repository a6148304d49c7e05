-- The plain forms of trees.
pub mod Terms
pub mod Codes
pub mod SourceExprs
pub mod SourceLines
-- Values of operators, and counts that stop at a limit.
pub mod Numbers
pub mod Counts
