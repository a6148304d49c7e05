-- ---- rows gathered one by one are the first of all new ones
pub mod FirstRows
-- ---- whole numbers make products true
pub mod Truth
