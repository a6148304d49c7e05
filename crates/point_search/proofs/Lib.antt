-- ---- rows of places, and the table that the lists make
pub mod PlacedRows
pub mod TableLists
