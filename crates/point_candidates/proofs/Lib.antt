-- ---- rows over columns, one after another
pub mod OverRows
