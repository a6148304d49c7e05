-- the graphs of a program's procedures
pub mod OwnGraphs
-- judgements once more
pub mod JudgedAgain
-- the rows that are told are those of the table
pub mod ToldRows
pub mod ToldLists
-- the report
pub mod PointTruth
-- no step makes notes
pub mod QuietProofs
