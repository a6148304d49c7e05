-- terms that are kept as long as there is room
pub mod Rooms
-- harvested terms are directions
pub mod Linear
-- named columns ascend, and each end has a vocabulary
pub mod Columns
