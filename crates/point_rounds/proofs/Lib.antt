-- ---- activations on top of a stack, and walks of them
pub mod Tops
pub mod WalksOn
pub mod WalkWidths
-- ---- rows that steps keep are true: `kept_rows_are_true`, `closed_tables_are_true`
pub mod KeptRows
pub mod CoveredPassages
-- ---- what a round tells of rows
pub mod ShownRows
pub mod FallenRows
pub mod RowColumns
pub mod KeptTables
-- ---- the table that is left, and what the last round leaves: `last_round-kept`
pub mod TablesLeft
pub mod RoundsKept
-- ---- for the code
-- ways and steps from points
pub mod WayCells
pub mod SourceParts
pub mod StateSteps
-- the rows at both ends of a step, and rows with their numbers
pub mod StepEnds
pub mod NumberedRows
-- lists of rows that are left, and rounds
pub mod LeftRows
pub mod RoundLoops
